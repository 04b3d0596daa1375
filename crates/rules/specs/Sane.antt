-- An exchange in which every publisher is in order, as every call keeps it, and what follows of every run.
use Rattle.std.specs.Prelude.{◌≡◌, ◌≢◌, ℕ, ◌+◌, ◌*◌, ◌<◌, ◌≤◌, Bool, true, false, cond, ◌&&◌, List, [], ◌∷◌, ◌++◌, Some, Vec, nat_lt}
use Rattle.std.specs.List.{All}
use Rattle.elementary.specs.Ids.{same_port}
use Rattle.elementary.specs.declared.port_id.PortId.{PortId}
use Rattle.rules.specs.declared.call.Call.{Call}
use Rattle.rules.specs.declared.call.Call.TheVariants.{Loan, Fill, Send, Return, ClosePublisher, Receive, Release, Read, Update, CloseSubscriber, SetMark, SetPace}
use Rattle.elementary.specs.declared.pointer_offset.PointerOffset.{PointerOffset}
use Rattle.elementary.specs.declared.port_list.SubscriberDetails.{SubscriberDetails}
use Rattle.std.specs.declared.alloc.Global.{Global}
use Rattle.rules.specs.declared.call.Answer.{Answer}
use Rattle.rules.specs.declared.call.Answer.TheVariants.{Done, Lent, Sent, Received, Payload, Refused, NoSuchPort}
use Rattle.elementary.specs.declared.settings.PublisherSettings.{PublisherSettings}
use Rattle.elementary.specs.declared.error.LoanError.TheVariants.{OutOfMemory}
use Rattle.elementary.specs.Refusals.{loan_refusal}
use Rattle.rules.specs.Laws.{as_large}
use Rattle.rules.specs.Memory.{IsMemory, taken_at}
use Rattle.rules.specs.Links.{Link, Proper, times}
use Rattle.rules.specs.Bytes.{payload}
use Rattle.rules.specs.Bank.{Places, at, SafeBank}
use Rattle.rules.specs.Publisher.{Connection, Pub, slot_at, is_live, last_of}
use Rattle.rules.specs.Books.{Ledger, InOrder, count_of, held_by, owns}
use Rattle.rules.specs.Exchange.{State, Moment, pub_of, side_of, Step, Story, New}

-- what publishers have are memories
abbrev pub Memories : State → Type 0
Memories s = (id : PortId) (p : Pub) → pub_of id s.pubs ≡ Some p → IsMemory p.chunks.mem

-- the bank is safe, and every publisher is in order with nothing in hand
pub record Sane (s : State) : Type 0 where
  pub bank : SafeBank s.links
  pub order : (id : PortId) (p : Pub) → pub_of id s.pubs ≡ Some p → InOrder p.loans [] (side_of s p)

-- whatever is called, on whichever port, and whatever is refused, as long as memories keep the law of every memory
pub record StepsKeepOrder : Type 0 where
  pub step : (s : State) (c : Call) (a : Answer) (t : State) → Step s c a t → Memories t → Sane s → Sane t
  -- and so does a run, whatever its calls, their order and their number
  pub story : (s : State) (ms : List Moment) (t : State) → Story s ms t → All (λ m. Memories m.after) ms → Sane s → Sane t

-- COUNTS BALANCE

-- as publishers are set up: their counts have a place for every bucket that the memory may come to have
abbrev pub SetUp : State → Type 0
SetUp s = (id : PortId) (p : Pub) → pub_of id s.pubs ≡ Some p → Ledger p.chunks

pub record Balanced (p : Pub) (ps : Places) : Type 0 where
  -- a chunk's count is its loans, its history entries and the links of its publisher that hold it
  pub count : (o : ℕ) → count_of p o ≡ times p.loans o + (times p.history o + held_by p.id ps o)
  -- its bucket is taken exactly where that is not zero
  pub taken : (o : ℕ) → taken_at p.chunks.mem.segments o ≡ nat_lt 0 (count_of p o)
  -- a chunk on loan has no other holder, so whoever writes it writes alone
  pub alone : (o : ℕ) → 0 < times p.loans o → count_of p o ≡ 1
  -- the cap of counts takes nothing away
  pub low : (o : ℕ) → count_of p o ≤ 10

-- after every call of every run from a new exchange, for each of its publishers
pub record CountsBalance : Type 0 where
  pub balance : (s : State) (ms : List Moment) (t : State) → New s → SetUp s → Story s ms t → All (λ m. Memories m.after) ms
      → (id : PortId) (p : Pub) → pub_of id t.pubs ≡ Some p → Balanced p t.links

-- SENT BYTES STAY

-- a chunk that a link of its publisher holds, and that is on no loan
pub record Out (p : Pub) (ps : Places) (o : ℕ) : Type 0 where
  pub lent : times p.loans o ≡ 0
  pub held : 0 < held_by p.id ps o

-- what a reading of a publisher's chunk would hand out
abbrev pub shown : Pub → ℕ → List ℕ
shown p o = payload p.chunks.mem p.bytes o

-- some link holds it in that state
abbrev pub HeldIn : PortId → ℕ → State → Type 0
HeldIn id o s = (p : Pub) → pub_of id s.pubs ≡ Some p → 0 < held_by p.id s.links o

pub record SentBytesStay : Type 0 where
  -- a send ends its loan, so that the chunk is on none, and shows what it showed as the send began
  pub sent : (s : State) (id : PortId) (x : PointerOffset) (n : ℕ) (list : Vec SubscriberDetails Global) (a : Answer) (t : State) → Step s (Send id x n list) a t → Sane s
      → (p q : Pub) → pub_of id s.pubs ≡ Some p → is_live p x ≡ true → pub_of id t.pubs ≡ Some q → (times q.loans x.value ≡ 0) × (shown q x.value ≡ shown p x.value)
  -- as long as a link holds it, whatever is called, it is lent to no one and shows the same bytes
  pub stay : (s : State) (ms : List Moment) (t : State) → Story s ms t → Memories s → All (λ m. Memories m.after) ms → Sane s
      → (id : PortId) (p : Pub) (o : ℕ) → pub_of id s.pubs ≡ Some p → Out p s.links o → All (λ m. HeldIn id o m.after) ms
      → (q : Pub) → pub_of id t.pubs ≡ Some q → Out q t.links o × (shown q o ≡ shown p o)

-- A LOAN IS SURE

-- how many buckets a publisher that stays by its settings can have bound: its loans, its history, and for each of its slots a full buffer and
-- all that may be borrowed
abbrev pub most_bound : PublisherSettings → ℕ
most_bound t = t.max_loaned_samples + (t.history_size + t.max_subscribers * (t.subscriber_max_buffer_size + t.subscriber_max_borrowed_samples))

-- in every run from a new exchange: where a publisher's memory has that many buckets as large as asked, free or taken, no loan is refused for
-- want of memory
pub record LoanIsSure : Type 0 where
  pub sure : (s : State) (ms : List Moment) (t : State) → New s → SetUp s → Story s ms t → Memories s → All (λ m. Memories m.after) ms
      → (id : PortId) (p : Pub) (size align : ℕ) (a : Answer) (u : State) → pub_of id t.pubs ≡ Some p → most_bound p.settings ≤ as_large p.chunks.mem.segments size
      → Step t (Loan id size align) a u → a ≢ Refused (loan_refusal OutOfMemory)

-- A HISTORY IS THE LAST SENDS

-- whether a send was delivered, by its answer: it was not refused, or not before its delivery
abbrev pub was_delivered : Answer → Bool
was_delivered Done = false
was_delivered (Lent o) = false
was_delivered (Sent n) = true
was_delivered (Received x) = false
was_delivered (Payload s l) = false
was_delivered (Refused r) = nat_lt 10 r.number
was_delivered NoSuchPort = false

-- the chunk that a call sent for a publisher
abbrev pub sent_by : PortId → Call → Answer → List PointerOffset
sent_by id (Loan i size align) a = []
sent_by id (Fill i o bytes) a = []
sent_by id (Send i o n list) a = cond (same_port id i && was_delivered a) (o ∷ []) []
sent_by id (Return i o) a = []
sent_by id (ClosePublisher i) a = []
sent_by id (Receive i) a = []
sent_by id (Release i x) a = []
sent_by id (Read i x) a = []
sent_by id (Update i n list) a = []
sent_by id (CloseSubscriber i) a = []
sent_by id (SetMark i m) a = []
sent_by id (SetPace i n) a = []

-- all that a run sent for it, oldest first; of moments the newest stands first
abbrev pub sends_of : PortId → List Moment → List PointerOffset
sends_of id [] = []
sends_of id (m ∷ ms) = sends_of id ms ++ sent_by id m.call m.answer

pub record HistoryIsLastSends : Type 0 where
  pub history : (s : State) (ms : List Moment) (t : State) → New s → SetUp s → Story s ms t → All (λ m. Memories m.after) ms
      → (id : PortId) (p : Pub) → pub_of id t.pubs ≡ Some p → p.history ≡ cond p.closed [] (last_of p.settings.history_size (sends_of id ms))

-- WHERE LINKS STAND

pub record LinksStayInOrder : Type 0 where
  -- each link keeps to its bounds, and has no offset twice
  pub proper : (s : State) (ms : List Moment) (t : State) → New s → SetUp s → Story s ms t → All (λ m. Memories m.after) ms
      → (j : ℕ) (l : Link) → at t.links j ≡ Some l → Proper l
  -- each attached sender end of a publisher stands in one of its slots, and in no other
  pub slot : (s : State) (ms : List Moment) (t : State) → New s → SetUp s → Story s ms t → All (λ m. Memories m.after) ms
      → (id : PortId) (p : Pub) → pub_of id t.pubs ≡ Some p → (j : ℕ) → owns p.id (at t.links j) ≡ true
      → (i : ℕ) × ((c : Connection) × (slot_at p i ≡ Some c) × (c.place ≡ j) × ((k : ℕ) (d : Connection) → slot_at p k ≡ Some d → d.place ≡ j → k ≡ i))
