-- The worked examples.
use Rattle.std.proofs.Common.{arith, rules, ◌≡◌, ℕ, true, [], ◌∷◌, Some, Option, refl}
use Rattle.elementary.specs.declared.error.SendError.{SendError}
use Rattle.elementary.specs.declared.error.SendError.TheVariants as send
use Rattle.elementary.specs.declared.link.Mark.TheVariants.{Broken}
use Rattle.rules.specs.Bank.{at}
use Rattle.rules.specs.Publisher.{Connection, Going, Handler, fails, verdict, ended, worse, Tries, Rounds}
use Rattle.rules.specs.Examples.{Examples, first_chunk, link_with}

-- a try at a broken link fails at once
broken_verdict : (f : Handler) (c : Connection) (a : Going) (n : ℕ) → at a.side.links c.place ≡ Some (link_with 1 true Broken [] []) → verdict f a.side c first_chunk n ≡ fails send.InternalError
broken_verdict f c a n e = search rules

broken_try : (f : Handler) (c : Connection) (a b : Going) (n : ℕ) → at a.side.links c.place ≡ Some (link_with 1 true Broken [] []) → Tries f first_chunk c n a b → b ≡ ended a c first_chunk (fails send.InternalError)
broken_try f c a b n h k = search rules

worse_internal : (f : Option SendError) → worse f send.InternalError ≡ Some send.InternalError
worse_internal f = search rules

broken_round : (f : Handler) (c d : Connection) (a b : Going) → at a.side.links c.place ≡ Some (link_with 1 true Broken [] [])
    → Rounds f first_chunk (Some c ∷ (Some d ∷ [])) a b → (b.side.links ≡ a.side.links) × (b.got ≡ a.got) × (b.fault ≡ Some send.InternalError)
broken_round f c d a b h k = grind (arith, broken_try)

pub examples : Examples
examples = record {
  offset_of_the_second_bucket = refl;
  late_link_gets_the_last_entries = refl;
  second_send_evicts_the_first = refl;
  second_send_waits = refl;
  corrupted_after_full = refl;
  corrupted_before_full = refl;
  broken_link_ends_the_round = broken_round;
  two_holders_keep_the_bucket = refl;
  one_holder_frees_the_bucket = refl;
  three_buckets_give_a_loan = refl;
  two_buckets_do_not = refl;
  no_data_is_none = λ t. refl;
}
