-- Worked examples of the rules, as statements about the definitions.
use Rattle.std.specs.Prelude.{◌≡◌, ℕ, Bool, true, false, List, [], ◌∷◌, Some, None, Ok}
use Rattle.elementary.specs.declared.port_id.PortId.{PortId}
use Rattle.elementary.specs.declared.pointer_offset.PointerOffset.{PointerOffset}
use Rattle.elementary.specs.declared.port_list.SubscriberDetails.{SubscriberDetails}
use Rattle.elementary.specs.declared.link.Standing.TheVariants.{Attached}
use Rattle.elementary.specs.declared.link.Mark.{Mark}
use Rattle.elementary.specs.declared.link.Mark.TheVariants.{Sound, Broken}
use Rattle.elementary.specs.declared.settings.PublisherSettings.{PublisherSettings}
use Rattle.elementary.specs.declared.backpressure.BackpressureStrategy.TheVariants as strategy
use Rattle.elementary.specs.declared.backpressure.DegradationAction.TheVariants.{Ignore}
use Rattle.elementary.specs.declared.error.AllocationError.TheVariants.{OutOfMemory}
use Rattle.elementary.specs.declared.error.SendError.TheVariants as send
use Rattle.rules.specs.Memory.{Mem, Segment, offset_of, taken_at, allocation_fault}
use Rattle.rules.specs.Counts.{Chunks, released}
use Rattle.rules.specs.Pools.{by}
use Rattle.rules.specs.Links.{Link, send_answer, send_after}
use Rattle.rules.specs.Bank.{Places, at}
use Rattle.rules.specs.Publisher.{Connection, Pub, connected, worse, Going, Rounds, Handler}
use Rattle.rules.specs.Subscriber.{Half, Translation, receive_answer}

-- three buckets of 64 bytes, in segment 0
abbrev pub first_chunk : PointerOffset
first_chunk = record { value = 0 }

abbrev pub second_chunk : PointerOffset
second_chunk = record { value = 16384 }

abbrev pub third_chunk : PointerOffset
third_chunk = record { value = 32768 }

abbrev pub segment_with : List Bool → Segment
segment_with taken = record { start = 0; size = 64; taken = taken }

abbrev pub memory_with : List Bool → Mem
memory_with taken = record { segments = segment_with taken ∷ []; largest = 64; capacity = 192; grows = λ _. false }

abbrev pub feed : PortId
feed = record { high = 0; low = 1 }

abbrev pub plot : PortId
plot = record { high = 0; low = 7 }

-- a link from the feed to the plot
abbrev pub link_with : ℕ → Bool → Mark → List PointerOffset → List PointerOffset → Link
link_with b overflow mark waiting borrowed = record {
  details = record { sender_port_id = feed; receiver_port_id = plot; buffer_size = b; max_borrowed_samples = 1; enable_safe_overflow = overflow };
  sender_end = Attached;
  receiver_end = Attached;
  mark = mark;
  waiting = waiting;
  borrowed = borrowed;
  returned = [];
}

abbrev pub settings : PublisherSettings
settings = record {
  max_loaned_samples = 1;
  history_size = 3;
  max_subscribers = 1;
  subscriber_max_buffer_size = 2;
  subscriber_max_borrowed_samples = 1;
  max_retries = 0;
  enable_safe_overflow = true;
  backpressure_strategy = strategy.DiscardData;
  degradation_action = Ignore;
}

-- a publisher that has sent three chunks to nobody
abbrev pub after_three_sends : Pub
after_three_sends = record {
  id = feed;
  settings = settings;
  chunks = record { mem = memory_with (true ∷ (true ∷ (true ∷ []))); counts = (1 ∷ (1 ∷ (1 ∷ []))) ∷ [] };
  bytes = [];
  loans = [];
  history = first_chunk ∷ (second_chunk ∷ (third_chunk ∷ []));
  slots = None ∷ [];
  cycle = 1;
  seen = Some 1;
  closed = false;
}

abbrev pub late : SubscriberDetails
late = record { place = 0; port_id = plot; buffer_size = 2 }

abbrev pub waiting_at : Places → ℕ → List PointerOffset
waiting_at ps i = by (at ps i) [] (λ l. l.waiting)

-- a chunk that so many hold
abbrev pub held_by : ℕ → Chunks
held_by n = record { mem = memory_with (true ∷ (false ∷ (false ∷ []))); counts = (n ∷ (0 ∷ (0 ∷ []))) ∷ [] }

-- a subscriber with one connection, whose link has nothing waiting
abbrev pub idle : Half
idle = record {
  port = record {
    id = plot;
    settings = record { max_publishers = 1; buffer_size = 1; max_borrowed_samples = 1; enable_safe_overflow = false; degradation_action = Ignore; max_expired_connections = 1 };
    slots = Some 0 ∷ [];
    storage = Some (record { peer = feed; place = 0; tag = 1; segments = 1 }) ∷ (None ∷ []);
    expired = [];
    cycle = 1;
    seen = Some 1;
  };
  links = Some (link_with 1 false Sound [] (first_chunk ∷ [])) ∷ [];
}

pub record Examples : Type 0 where
  -- bucket 1 of 64 bytes in segment 0 has the offset value 16,384
  pub offset_of_the_second_bucket : offset_of (segment_with (true ∷ (true ∷ [])) ∷ []) 0 1 ≡ 16384
  -- with three entries in the history and a buffer of two, a late link gets the second and the third
  pub late_link_gets_the_last_entries :
      waiting_at (connected (record { port = after_three_sends; links = None ∷ [] }) late 0).links 0 ≡ second_chunk ∷ (third_chunk ∷ [])
  -- with a buffer of one and overflow, the second send evicts what the first one brought
  pub second_send_evicts_the_first : send_answer (link_with 1 true Sound (first_chunk ∷ []) []) second_chunk ≡ Ok (Some first_chunk)
  pub second_send_waits : (send_after (link_with 1 true Sound (first_chunk ∷ []) []) second_chunk).waiting ≡ second_chunk ∷ []
  -- a corrupted link goes before a full buffer, whichever came first
  pub corrupted_after_full : worse (worse None send.UnableToDeliver) send.ConnectionCorrupted ≡ Some send.ConnectionCorrupted
  pub corrupted_before_full : worse (worse None send.ConnectionCorrupted) send.UnableToDeliver ≡ Some send.ConnectionCorrupted
  -- a broken link in slot 0 ends the round: the link in slot 1 is as it was
  pub broken_link_ends_the_round : (f : Handler) (c d : Connection) (a b : Going) → at a.side.links c.place ≡ Some (link_with 1 true Broken [] [])
      → Rounds f first_chunk (Some c ∷ (Some d ∷ [])) a b → (b.side.links ≡ a.side.links) × (b.got ≡ a.got) × (b.fault ≡ Some send.InternalError)
  -- a release that finds two holders keeps the bucket, one that finds one frees it
  pub two_holders_keep_the_bucket : taken_at (released (held_by 2) 0).mem.segments 0 ≡ true
  pub one_holder_frees_the_bucket : taken_at (released (held_by 1) 0).mem.segments 0 ≡ false
  -- one chunk waiting and one borrowed: three buckets give a loan, two do not
  pub three_buckets_give_a_loan : allocation_fault (memory_with (true ∷ (true ∷ (false ∷ [])))) 64 8 ≡ None
  pub two_buckets_do_not : allocation_fault (memory_with (true ∷ (true ∷ []))) 64 8 ≡ Some OutOfMemory
  -- no data anywhere is none, though the one connection is at its limit
  pub no_data_is_none : (t : Translation) → receive_answer t idle ≡ Ok None
