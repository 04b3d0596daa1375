-- A bank of links: its places, and what each call makes of them.
use Rattle.std.specs.Prelude.{◌≡◌, ℕ, suc, ◌<◌, ◌≤◌, Bool, true, false, cond, not, ◌&&◌, ◌||◌, ltb, List, [], ◌∷◌, length, is_some, Some, None, Ok, Err, fold, Option, Result, ◌==◌, ◌≢◌, nat_lt, slice_index_or, slice_set}
use Rattle.std.specs.Option.{option_map}
use Rattle.elementary.specs.Ids.{same_port}
use Rattle.elementary.specs.declared.pointer_offset.PointerOffset.{PointerOffset}
use Rattle.elementary.specs.declared.link.LinkDetails.{LinkDetails}
use Rattle.elementary.specs.declared.link.Event.TheVariants.{Attach, Detach}
use Rattle.elementary.specs.declared.link.End.{End}
use Rattle.elementary.specs.declared.link.Standing.{Standing}
use Rattle.elementary.specs.declared.link.Standing.TheVariants.{NeverAttached}
use Rattle.elementary.specs.declared.link.Mark.{Mark}
use Rattle.elementary.specs.declared.link.Mark.TheVariants.{Sound, Corrupted, Broken}
use Rattle.elementary.specs.declared.link.ChunkList.{ChunkList}
use Rattle.elementary.specs.declared.link.ChunkList.TheVariants.{Waiting, Borrowed, Returned}
use Rattle.elementary.specs.declared.error.ZeroCopySendError.{ZeroCopySendError}
use Rattle.elementary.specs.declared.error.ZeroCopySendError.TheVariants as sending
use Rattle.elementary.specs.declared.error.ZeroCopyReceiveError.{ZeroCopyReceiveError}
use Rattle.elementary.specs.declared.error.ZeroCopyReceiveError.TheVariants as receiving
use Rattle.elementary.specs.declared.error.ZeroCopyReleaseError.{ZeroCopyReleaseError}
use Rattle.elementary.specs.declared.error.ZeroCopyReleaseError.TheVariants as releasing
use Rattle.elementary.specs.declared.error.ConnectionError.{ConnectionError}
use Rattle.elementary.specs.declared.error.ConnectionError.TheVariants as connecting
use Rattle.elementary.specs.declared.error.ZeroCopyCreationError.{ZeroCopyCreationError}
use Rattle.elementary.specs.declared.error.ZeroCopyCreationError.TheVariants as creating
use Rattle.rules.specs.Pools.{by}
use Rattle.rules.specs.Links.{Link, Proper, attached, never, standing, stepped, alive, fresh, held, send_answer, send_after, reclaim_answer, reclaim_after, receive_answer, receive_after, release_fault, release_after}

-- one of two statements
abbrev pub Goes : Bool → Type 0 → Type 0 → Type 0
Goes true A B = A
Goes false A B = B

-- each place is empty or has a link
abbrev pub Places : Type 0
Places = List (Option Link)

-- a place that the bank does not have is empty
abbrev pub at : Places → ℕ → Option Link
at ps i = slice_index_or ps i None

-- the link at one place changed, and every other place as it was
abbrev pub changed : Places → ℕ → (Link → Link) → Places
changed ps i f = slice_set ps i (option_map f (at ps i))

-- CALLS ON ONE LINK

abbrev pub sends : Places → ℕ → PointerOffset → Result (Option PointerOffset) ZeroCopySendError
sends ps i o = by (at ps i) (Err sending.NotConnected) (λ l. send_answer l o)

abbrev pub sent : Places → ℕ → PointerOffset → Places
sent ps i o = changed ps i (λ l. send_after l o)

abbrev pub reclaims : Places → ℕ → Result (Option PointerOffset) ConnectionError
reclaims ps i = by (at ps i) (Err connecting.NotConnected) reclaim_answer

abbrev pub reclaimed : Places → ℕ → Places
reclaimed ps i = changed ps i reclaim_after

abbrev pub receives : Places → ℕ → Result (Option PointerOffset) ZeroCopyReceiveError
receives ps i = by (at ps i) (Err receiving.NotConnected) receive_answer

abbrev pub received : Places → ℕ → Places
received ps i = changed ps i receive_after

abbrev pub release_faults : Places → ℕ → PointerOffset → Option ZeroCopyReleaseError
release_faults ps i o = by (at ps i) (Some releasing.NotBorrowed) (λ l. release_fault l o)

abbrev pub given_back : Places → ℕ → PointerOffset → Places
given_back ps i o = changed ps i (λ l. release_after l o)

-- CREATING AN END

-- the first place that passes a test, or how many there are
abbrev pub first : {X : Type 0} → (X → Bool) → List X → ℕ
first t [] = 0
first t (p ∷ ps) = cond (t p) 0 (suc (first t ps))

abbrev pub is_empty : Option Link → Bool
is_empty None = true
is_empty (Some l) = false

abbrev pub same_bool : Bool → Bool → Bool
same_bool true b = b
same_bool false b = not b

abbrev pub between : LinkDetails → LinkDetails → Bool
between d e = same_port d.sender_port_id e.sender_port_id && same_port d.receiver_port_id e.receiver_port_id

abbrev pub agree : LinkDetails → LinkDetails → Bool
agree d e = d.buffer_size == e.buffer_size && (d.max_borrowed_samples == e.max_borrowed_samples && same_bool d.enable_safe_overflow e.enable_safe_overflow)

-- the link of these two ports
abbrev pub connects : LinkDetails → Option Link → Bool
connects d p = by p false (λ l. between l.details d)

-- the cause for which an end is not attached to the link of its ports
abbrev pub join_fault : End → LinkDetails → Link → Option ZeroCopyCreationError
join_fault end d l = cond (never (standing end l)) (cond (agree l.details d) None (Some creating.IncompatibleSettings)) (Some creating.AnotherInstanceIsAlreadyConnected)

-- sizes that no link has: a buffer of 0 or above 8; a borrow limit above 8, which no port has, counts as other settings
abbrev pub bad_buffer : LinkDetails → Bool
bad_buffer d = d.buffer_size == 0 || nat_lt 8 d.buffer_size

abbrev pub bad_borrow : LinkDetails → Bool
bad_borrow d = nat_lt 8 d.max_borrowed_samples

abbrev pub create_fault : End → Places → LinkDetails → Option ZeroCopyCreationError
create_fault end ps d =
    cond (bad_buffer d) (Some creating.IncompatibleBufferSize)
    (cond (nat_lt (first (connects d) ps) (length ps))
    (by (at ps (first (connects d) ps)) None (join_fault end d))
    (cond (bad_borrow d) (Some creating.IncompatibleSettings)
    (cond (nat_lt (first is_empty ps) (length ps)) None (Some creating.NoPlaceLeft))))

-- a place that a new end may take: that of the link of its ports, else any that is empty
pub record MayTake (ps : Places) (d : LinkDetails) (p : ℕ) : Type 0 where
  pub within : p < length ps
  pub joins : first (connects d) ps < length ps → p ≡ first (connects d) ps
  pub takes : length ps ≤ first (connects d) ps → at ps p ≡ None

-- the end attached there
abbrev pub created : End → Places → LinkDetails → ℕ → Places
created end ps d p = slice_set ps p (Some (stepped end Attach (by (at ps p) (fresh d) (λ l. l))))

abbrev pub Creates : End → Places → LinkDetails → Result ℕ ZeroCopyCreationError → Places → Type 0
Creates end ps d (Ok p) qs = MayTake ps d p × (qs ≡ created end ps d p)
Creates end ps d (Err e) qs = qs ≡ ps

-- DETACHING AN END

abbrev pub detach_fault : End → Places → ℕ → Option ConnectionError
detach_fault end ps i = by (at ps i) (Some connecting.NotConnected) (λ l. cond (attached (standing end l)) None (Some connecting.NotConnected))

-- a place empties when no end of its link is attached
abbrev pub kept : Link → Option Link
kept l = cond (alive l) (Some l) None

abbrev pub detached : End → Places → ℕ → Places
detached end ps i = slice_set ps i (by (at ps i) None (λ l. kept (stepped end Detach l)))

-- what a sender end hands back when it is detached, in an order left open
abbrev pub held_at : Places → ℕ → List PointerOffset
held_at ps i = by (at ps i) [] held

-- A TURN

-- one call of a receiver end
pub data Move : Type 0 where
  receive_at : ℕ → Move
  release_at : ℕ → PointerOffset → Move

abbrev pub moved : Places → Move → Places
moved ps (receive_at i) = received ps i
moved ps (release_at i o) = given_back ps i o

-- some list of moves led from one to the other
abbrev pub Turned : Places → Places → Type 0
Turned ps qs = (ms : List Move) × (qs ≡ fold moved ps ms)

-- QUESTIONS

abbrev pub has_data : Places → ℕ → Bool
has_data ps i = by (at ps i) false (λ l. ltb 0 (length l.waiting))

abbrev pub borrow_count : Places → ℕ → ℕ
borrow_count ps i = by (at ps i) 0 (λ l. length l.borrowed)

abbrev pub details_at : Places → ℕ → Option LinkDetails
details_at ps i = option_map (λ (l : Link). l.details) (at ps i)

-- an end that is not there was never attached
abbrev pub standing_at : End → Places → ℕ → Standing
standing_at end ps i = by (at ps i) NeverAttached (standing end)

abbrev pub is_attached : End → Places → ℕ → Bool
is_attached end ps i = attached (standing_at end ps i)

abbrev pub mark_at : Places → ℕ → Mark
mark_at ps i = by (at ps i) Sound (λ l. l.mark)

abbrev pub entries_of : ChunkList → Link → List PointerOffset
entries_of Waiting l = l.waiting
entries_of Borrowed l = l.borrowed
entries_of Returned l = l.returned

abbrev pub entries_at : ChunkList → Places → ℕ → List PointerOffset
entries_at which ps i = by (at ps i) [] (entries_of which)

-- A RIG'S SETTINGS

-- they can be set at a link, where the bank is a rig
abbrev pub settable : Bool → Places → ℕ → Bool
settable rigged ps i = rigged && is_some (at ps i)

abbrev pub with_mark : Link → Mark → Link
with_mark l m = record { details = l.details; sender_end = l.sender_end; receiver_end = l.receiver_end; mark = m; waiting = l.waiting; borrowed = l.borrowed; returned = l.returned }

-- the mark becomes m; where m is sound, it becomes that of the bank below, whatever that is
abbrev pub Marked : Mark → Mark → Type 0
Marked Sound x = Unit {0}
Marked Corrupted x = x ≡ Corrupted
Marked Broken x = x ≡ Broken

abbrev pub SetsMark : Bool → Places → ℕ → Mark → Places → Type 0
SetsMark rigged ps i m qs =
    Goes (settable rigged ps i) ((x : Mark) × Marked m x × (qs ≡ changed ps i (λ l. with_mark l x))) (qs ≡ ps)

-- WHAT HOLDS OF EVERY BANK

pub record SoundBank (ps : Places) : Type 0 where
  pub proper : (i : ℕ) (l : Link) → at ps i ≡ Some l → Proper l
  -- no two links have the same pair of ports
  pub pairs : (i j : ℕ) (k l : Link) → i < j → at ps i ≡ Some k → at ps j ≡ Some l → between k.details l.details ≢ true

-- where no sender was ever attached, nothing was ever sent
abbrev pub Unsent : Link → Type 0
Unsent l = never l.sender_end ≡ true → (l.waiting ≡ []) × (l.borrowed ≡ []) × (l.returned ≡ [])

-- a bank that began without links and was changed by its calls alone
pub record SafeBank (ps : Places) : Type 0 where
  pub sound : SoundBank ps
  pub unsent : (i : ℕ) (l : Link) → at ps i ≡ Some l → Unsent l

-- EVERY CALL KEEPS A BANK SOUND

-- what is true of a bank stays so, whatever is called and whatever marks a rig sets
pub record Lasts (P : Places → Type 0) : Type 0 where
  pub sending : (ps : Places) (i : ℕ) (o : PointerOffset) → P ps → P (sent ps i o)
  pub reclaiming : (ps : Places) (i : ℕ) → P ps → P (reclaimed ps i)
  pub turning : (ps qs : Places) → Turned ps qs → P ps → P qs
  pub creating : (end : End) (ps : Places) (d : LinkDetails) (p : ℕ) → create_fault end ps d ≡ None → MayTake ps d p → P ps → P (created end ps d p)
  pub detaching : (end : End) (ps : Places) (i : ℕ) → P ps → P (detached end ps i)
  pub marking : (rigged : Bool) (ps : Places) (i : ℕ) (m : Mark) (qs : Places) → SetsMark rigged ps i m qs → P ps → P qs

abbrev pub StaysSound : Type 0
StaysSound = Lasts SoundBank

-- and where no sender was ever attached, nothing was sent
pub record StaysSafe : Type 0 where
  pub sound : StaysSound
  pub safe : Lasts SafeBank
