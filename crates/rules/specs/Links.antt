-- A link between a sender and a receiver, and what each call makes of it.
use Rattle.std.specs.Prelude.{◌≡◌, ℕ, ◌+◌, ◌≤◌, Bool, true, false, cond, ◌&&◌, ◌||◌, List, [], ◌∷◌, ◌++◌, length, is_some, is_ok, Some, None, Ok, Err, count_by, Option, Result, nat_eq, nat_lt}
use Rattle.std.specs.Option.{option_to_list}
use Rattle.container.specs.Queue.{oldest, later, roomy, overflowed, evicted, has, without}
use Rattle.elementary.specs.Ids.{same_chunk}
use Rattle.elementary.specs.declared.pointer_offset.PointerOffset.{PointerOffset}
use Rattle.elementary.specs.declared.link.LinkDetails.{LinkDetails}
use Rattle.elementary.specs.declared.link.Standing.{Standing}
use Rattle.elementary.specs.declared.link.Standing.TheVariants.{NeverAttached, Attached, Gone}
use Rattle.elementary.specs.declared.link.Event.{Event}
use Rattle.elementary.specs.declared.link.Event.TheVariants.{Attach, Detach}
use Rattle.elementary.specs.declared.link.End.{End}
use Rattle.elementary.specs.declared.link.End.TheVariants.{Sender, Receiver}
use Rattle.elementary.specs.declared.link.Mark.{Mark}
use Rattle.elementary.specs.declared.link.Mark.TheVariants.{Sound, Corrupted, Broken}
use Rattle.elementary.specs.declared.error.ZeroCopySendError.{ZeroCopySendError}
use Rattle.elementary.specs.declared.error.ZeroCopySendError.TheVariants as sending
use Rattle.elementary.specs.declared.error.ZeroCopyReceiveError.{ZeroCopyReceiveError}
use Rattle.elementary.specs.declared.error.ZeroCopyReceiveError.TheVariants as receiving
use Rattle.elementary.specs.declared.error.ZeroCopyReleaseError.{ZeroCopyReleaseError}
use Rattle.elementary.specs.declared.error.ZeroCopyReleaseError.TheVariants as releasing
use Rattle.elementary.specs.declared.error.ConnectionError.{ConnectionError}
use Rattle.elementary.specs.declared.error.ConnectionError.TheVariants as connecting

pub record Link : Type 0 where
  pub details : LinkDetails
  pub sender_end : Standing
  pub receiver_end : Standing
  pub mark : Mark
  -- sent and not yet received, received and not yet given back, given back and not yet reclaimed; oldest first
  pub waiting : List PointerOffset
  pub borrowed : List PointerOffset
  pub returned : List PointerOffset

abbrev pub with_lists : Link → List PointerOffset → List PointerOffset → List PointerOffset → Link
with_lists l w b r = record { details = l.details; sender_end = l.sender_end; receiver_end = l.receiver_end; mark = l.mark; waiting = w; borrowed = b; returned = r }

-- ENDS

abbrev pub attached : Standing → Bool
attached NeverAttached = false
attached Attached = true
attached Gone = false

abbrev pub never : Standing → Bool
never NeverAttached = true
never Attached = false
never Gone = false

-- how an end stands after an event: one that is gone does not come back
abbrev pub next_standing : Standing → Event → Standing
next_standing NeverAttached Attach = Attached
next_standing NeverAttached Detach = NeverAttached
next_standing Attached Attach = Attached
next_standing Attached Detach = Gone
next_standing Gone Attach = Gone
next_standing Gone Detach = Gone

abbrev pub standing : End → Link → Standing
standing Sender l = l.sender_end
standing Receiver l = l.receiver_end

abbrev pub with_ends : Link → Standing → Standing → Link
with_ends l s r = record { details = l.details; sender_end = s; receiver_end = r; mark = l.mark; waiting = l.waiting; borrowed = l.borrowed; returned = l.returned }

abbrev pub stepped : End → Event → Link → Link
stepped Sender e l = with_ends l (next_standing l.sender_end e) l.receiver_end
stepped Receiver e l = with_ends l l.sender_end (next_standing l.receiver_end e)

abbrev pub alive : Link → Bool
alive l = attached l.sender_end || attached l.receiver_end

-- a link that was just made has no end yet
abbrev pub fresh : LinkDetails → Link
fresh d = record { details = d; sender_end = NeverAttached; receiver_end = NeverAttached; mark = Sound; waiting = []; borrowed = []; returned = [] }

-- WHAT A LINK HOLDS

abbrev pub listed : Link → List PointerOffset
listed l = l.waiting ++ (l.borrowed ++ l.returned)

-- while its sender end is attached
abbrev pub held : Link → List PointerOffset
held l = cond (attached l.sender_end) (listed l) []

abbrev pub lists : Link → PointerOffset → Bool
lists l o = has same_chunk l.waiting o || (has same_chunk l.borrowed o || has same_chunk l.returned o)

-- SEND

abbrev pub sound_send : Link → PointerOffset → Result (Option PointerOffset) ZeroCopySendError
sound_send l o =
    cond (lists l o) (Err sending.UsedChunkListFull)
    (cond (roomy l.details.buffer_size l.waiting || l.details.enable_safe_overflow)
    (Ok (evicted l.details.buffer_size l.waiting o))
    (Err sending.ReceiveBufferFull))

abbrev pub marked_send : Mark → Link → PointerOffset → Result (Option PointerOffset) ZeroCopySendError
marked_send Broken l o = Err sending.InternalError
marked_send Corrupted l o = Err sending.ConnectionCorrupted
marked_send Sound l o = sound_send l o

abbrev pub send_answer : Link → PointerOffset → Result (Option PointerOffset) ZeroCopySendError
send_answer l o = cond (attached l.sender_end) (marked_send l.mark l o) (Err sending.NotConnected)

abbrev pub send_after : Link → PointerOffset → Link
send_after l o = with_lists l (cond (is_ok (send_answer l o)) (overflowed l.details.buffer_size l.waiting o) l.waiting) l.borrowed l.returned

-- RECLAIM

abbrev pub reclaim_answer : Link → Result (Option PointerOffset) ConnectionError
reclaim_answer l = cond (attached l.sender_end) (Ok (oldest l.returned)) (Err connecting.NotConnected)

abbrev pub reclaim_after : Link → Link
reclaim_after l = with_lists l l.waiting l.borrowed (cond (attached l.sender_end) (later l.returned) l.returned)

-- RECEIVE

-- whether one chunk more may be borrowed
abbrev pub can_borrow : Link → Bool
can_borrow l = nat_lt (length l.borrowed) l.details.max_borrowed_samples

abbrev pub receive_answer : Link → Result (Option PointerOffset) ZeroCopyReceiveError
receive_answer l =
    cond (attached l.receiver_end)
    (cond (can_borrow l) (Ok (oldest l.waiting)) (Err receiving.ReceiveWouldExceedMaxBorrowValue))
    (Err receiving.NotConnected)

abbrev pub receive_after : Link → Link
receive_after l =
    with_lists l
    (cond (attached l.receiver_end && can_borrow l) (later l.waiting) l.waiting)
    (cond (attached l.receiver_end && can_borrow l) (l.borrowed ++ option_to_list (oldest l.waiting)) l.borrowed)
    l.returned

-- RELEASE

-- how many returned offsets a link takes
abbrev pub most_returned : Link → ℕ
most_returned l = l.details.buffer_size + l.details.max_borrowed_samples + 1

abbrev pub release_fault : Link → PointerOffset → Option ZeroCopyReleaseError
release_fault l o =
    cond (attached l.receiver_end && has same_chunk l.borrowed o)
    (cond (nat_lt (length l.returned) (most_returned l)) None (Some releasing.RetrieveBufferFull))
    (Some releasing.NotBorrowed)

abbrev pub release_after : Link → PointerOffset → Link
release_after l o =
    with_lists l l.waiting
    (cond (is_some (release_fault l o)) l.borrowed (without same_chunk l.borrowed o))
    (cond (is_some (release_fault l o)) l.returned (l.returned ++ o ∷ []))

-- WHAT HOLDS OF EVERY LINK

-- how often a list has an offset
abbrev pub times : List PointerOffset → ℕ → ℕ
times os o = count_by (λ x. nat_eq x.value o) os

pub record Proper (l : Link) : Type 0 where
  pub buffer : (1 ≤ l.details.buffer_size) × (l.details.buffer_size ≤ 8)
  pub borrow : l.details.max_borrowed_samples ≤ 8
  pub waiting : length l.waiting ≤ l.details.buffer_size
  pub borrowed : length l.borrowed ≤ l.details.max_borrowed_samples
  pub returned : length l.returned ≤ most_returned l
  -- no offset stands in a link twice
  pub once : (o : ℕ) → times (listed l) o ≤ 1
  -- some end is attached
  pub live : alive l ≡ true
