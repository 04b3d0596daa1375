-- A publisher: its records, and what each of its calls makes of them and of the bank.
use Rattle.std.specs.Prelude.{◌≡◌, ℕ, ◌+◌, ◌-◌, ◌^◌, Bool, true, false, cond, not, ◌&&◌, ◌||◌, List, [], ◌∷◌, ◌++◌, map, length, drop, Some, None, Ok, Err, fold, Option, Result, MatchOption, ◌==◌, nat_eq, nat_lt, slice_index_or, slice_set}
use Rattle.std.specs.Result.{result_err}
use Rattle.std.specs.Option.{option_map}
use Rattle.std.specs.List.Sorted.{IsPermutation}
use Rattle.container.specs.Queue.{has, without, overflowed, evicted}
use Rattle.elementary.specs.Ids.{same_port, same_chunk}
use Rattle.elementary.specs.declared.port_id.PortId.{PortId}
use Rattle.elementary.specs.declared.pointer_offset.PointerOffset.{PointerOffset}
use Rattle.elementary.specs.declared.port_list.SubscriberDetails.{SubscriberDetails}
use Rattle.elementary.specs.declared.link.LinkDetails.{LinkDetails}
use Rattle.elementary.specs.declared.link.End.TheVariants.{Sender}
use Rattle.elementary.specs.declared.settings.PublisherSettings.{PublisherSettings}
use Rattle.elementary.specs.declared.backpressure.BackpressureInfo.{BackpressureInfo}
use Rattle.elementary.specs.declared.backpressure.BackpressureAction.{BackpressureAction}
use Rattle.elementary.specs.declared.backpressure.BackpressureAction.TheVariants as action
use Rattle.elementary.specs.declared.backpressure.BackpressureStrategy.{BackpressureStrategy}
use Rattle.elementary.specs.declared.backpressure.BackpressureStrategy.TheVariants as strategy
use Rattle.elementary.specs.declared.backpressure.DegradationAction.{DegradationAction}
use Rattle.elementary.specs.declared.backpressure.DegradationAction.TheVariants.{Ignore, Warn, DegradeAndFail}
use Rattle.elementary.specs.declared.error.AllocationError.{AllocationError}
use Rattle.elementary.specs.declared.error.AllocationError.TheVariants as allocation
use Rattle.elementary.specs.declared.error.LoanError.{LoanError}
use Rattle.elementary.specs.declared.error.LoanError.TheVariants as loan
use Rattle.elementary.specs.declared.error.FillError.{FillError}
use Rattle.elementary.specs.declared.error.FillError.TheVariants as fill
use Rattle.elementary.specs.declared.error.ReturnError.{ReturnError}
use Rattle.elementary.specs.declared.error.ReturnError.TheVariants as return
use Rattle.elementary.specs.declared.error.SendError.{SendError}
use Rattle.elementary.specs.declared.error.SendError.TheVariants as send
use Rattle.elementary.specs.declared.error.CloseError.{CloseError}
use Rattle.elementary.specs.declared.error.CloseError.TheVariants as close
use Rattle.elementary.specs.declared.error.ZeroCopySendError.{ZeroCopySendError}
use Rattle.elementary.specs.declared.error.ZeroCopySendError.TheVariants as sending
use Rattle.elementary.specs.declared.error.ZeroCopyCreationError.{ZeroCopyCreationError}
use Rattle.elementary.specs.declared.error.ZeroCopyCreationError.TheVariants as creating
use Rattle.rules.specs.Memory.{Mem, allocation_fault, Allocates}
use Rattle.rules.specs.Counts.{Chunks, borrowed, released}
use Rattle.rules.specs.Bytes.{fill_fault, filled}
use Rattle.rules.specs.Pools.{by}
use Rattle.rules.specs.Links.{Link, attached, with_lists}
use Rattle.rules.specs.Bank.{Goes, Places, at, changed, sends, sent, create_fault, MayTake, created, detached, held_at, Turned}

-- a slot's connection: with whom, at which place of the bank, and the cycle in which a list named it last
pub record Connection : Type 0 where
  pub peer : PortId
  pub place : ℕ
  pub tag : ℕ

pub record Pub : Type 0 where
  pub id : PortId
  pub settings : PublisherSettings
  pub chunks : Chunks
  pub bytes : List ℕ
  -- live loans, in the order in which they were given
  pub loans : List PointerOffset
  -- the chunks sent last, oldest first
  pub history : List PointerOffset
  pub slots : List (Option Connection)
  pub cycle : ℕ
  -- the change number of the list noted last
  pub seen : Option ℕ
  pub closed : Bool

-- a publisher beside the bank
pub record Side : Type 0 where
  pub port : Pub
  pub links : Places

abbrev pub with_chunks : Pub → Chunks → Pub
with_chunks p c = record { id = p.id; settings = p.settings; chunks = c; bytes = p.bytes; loans = p.loans; history = p.history; slots = p.slots; cycle = p.cycle; seen = p.seen; closed = p.closed }

abbrev pub with_bytes : Pub → List ℕ → Pub
with_bytes p b = record { id = p.id; settings = p.settings; chunks = p.chunks; bytes = b; loans = p.loans; history = p.history; slots = p.slots; cycle = p.cycle; seen = p.seen; closed = p.closed }

abbrev pub with_loans : Pub → List PointerOffset → Pub
with_loans p l = record { id = p.id; settings = p.settings; chunks = p.chunks; bytes = p.bytes; loans = l; history = p.history; slots = p.slots; cycle = p.cycle; seen = p.seen; closed = p.closed }

abbrev pub with_history : Pub → List PointerOffset → Pub
with_history p h = record { id = p.id; settings = p.settings; chunks = p.chunks; bytes = p.bytes; loans = p.loans; history = h; slots = p.slots; cycle = p.cycle; seen = p.seen; closed = p.closed }

abbrev pub with_slots : Pub → List (Option Connection) → Pub
with_slots p s = record { id = p.id; settings = p.settings; chunks = p.chunks; bytes = p.bytes; loans = p.loans; history = p.history; slots = s; cycle = p.cycle; seen = p.seen; closed = p.closed }

abbrev pub slot_at : Pub → ℕ → Option Connection
slot_at p i = slice_index_or p.slots i None

-- HOLDING AND LETTING GO

abbrev pub hold : Pub → PointerOffset → Pub
hold p o = with_chunks p (borrowed p.chunks o.value)

abbrev pub let_go : Pub → PointerOffset → Pub
let_go p o = with_chunks p (released p.chunks o.value)

abbrev pub let_go_if : Pub → Option PointerOffset → Pub
let_go_if p None = p
let_go_if p (Some o) = let_go p o

abbrev pub let_go_all : Pub → List PointerOffset → Pub
let_go_all p os = fold let_go p os

-- RECLAIMING

abbrev pub returned_at : Places → ℕ → List PointerOffset
returned_at ps i = by (at ps i) [] (λ l. cond (attached l.sender_end) l.returned [])

abbrev pub cleared : Link → Link
cleared l = with_lists l l.waiting l.borrowed (cond (attached l.sender_end) [] l.returned)

-- one slot's link emptied of what was returned
abbrev pub emptied : Side → Option Connection → Side
emptied g None = g
emptied g (Some c) = record { port = let_go_all g.port (returned_at g.links c.place); links = changed g.links c.place cleared }

abbrev pub reclaimed_all : Side → Side
reclaimed_all g = fold emptied g g.port.slots

-- LOAN

abbrev pub loan_error : AllocationError → LoanError
loan_error allocation.SizeTooLarge = loan.ExceedsMaxLoanSize
loan_error allocation.AlignmentFailure = loan.InternalFailure
loan_error allocation.OutOfMemory = loan.OutOfMemory

abbrev pub loan_answer : Result PointerOffset AllocationError → Result PointerOffset LoanError
loan_answer (Ok o) = Ok o
loan_answer (Err e) = Err (loan_error e)

-- with the bucket that the memory chose, in the memory that has it taken
abbrev pub lent : Side → Result PointerOffset AllocationError → Mem → Side
lent g (Ok o) n = record { port = with_loans (with_chunks g.port (borrowed (record { mem = n; counts = g.port.chunks.counts }) o.value)) (g.port.loans ++ o ∷ []); links = g.links }
lent g (Err e) n = g

abbrev pub Allots : Side → ℕ → ℕ → Result PointerOffset LoanError → Side → Type 0
Allots g asked align r h =
    (a : Result PointerOffset AllocationError) × ((n : Mem)
    × (result_err a ≡ allocation_fault g.port.chunks.mem asked align) × Allocates g.port.chunks.mem asked a n
    × (r ≡ loan_answer a) × (h ≡ lent g a n))

abbrev pub may_loan : Pub → Bool
may_loan p = nat_lt (length p.loans) p.settings.max_loaned_samples

abbrev pub Loans : Side → ℕ → ℕ → Result PointerOffset LoanError → Side → Type 0
Loans g asked align r h =
    Goes g.port.closed ((r ≡ Err loan.ConnectionBrokenSinceSenderNoLongerExists) × (h ≡ g))
    (Goes (may_loan g.port) (Allots (reclaimed_all g) asked align r h) ((r ≡ Err loan.ExceedsMaxLoans) × (h ≡ reclaimed_all g)))

-- FILL AND RETURN

abbrev pub is_live : Pub → PointerOffset → Bool
is_live p o = has same_chunk p.loans o

abbrev pub fill_refusal : Pub → PointerOffset → List ℕ → Option FillError
fill_refusal p o source = cond (is_live p o) (fill_fault p.chunks.mem p.bytes o.value source) (Some fill.LoanNotLive)

abbrev pub fill_after : Pub → PointerOffset → List ℕ → Pub
fill_after p o source = with_bytes p (cond (is_live p o) (filled p.chunks.mem p.bytes o.value source) p.bytes)

-- the loan ends
abbrev pub unloaned : Pub → PointerOffset → Pub
unloaned p o = let_go (with_loans p (without same_chunk p.loans o)) o

abbrev pub return_refusal : Pub → PointerOffset → Option ReturnError
return_refusal p o = cond (is_live p o) None (Some return.LoanNotLive)

abbrev pub return_after : Pub → PointerOffset → Pub
return_after p o = cond (is_live p o) (unloaned p o) p

-- LINKS THAT COME AND GO

-- a slot's link removed: its sender end is detached, and what it held is let go, in any order
abbrev pub Removes : Side → ℕ → Side → Type 0
Removes g i h =
    MatchOption (slot_at g.port i) (h ≡ g) (λ c.
    (os : List PointerOffset) × IsPermutation (held_at g.links c.place) os
    × (h ≡ record { port = let_go_all (with_slots g.port (slice_set g.port.slots i None)) os; links = detached Sender g.links c.place }))

-- what a link made for an entry is like
abbrev pub wanted : Pub → SubscriberDetails → LinkDetails
wanted p e = record {
  sender_port_id = p.id;
  receiver_port_id = e.port_id;
  buffer_size = e.buffer_size;
  max_borrowed_samples = p.settings.subscriber_max_borrowed_samples;
  enable_safe_overflow = p.settings.enable_safe_overflow;
}

-- a buffer above the publisher's limit is refused before the bank is asked
abbrev pub connect_fault : Side → SubscriberDetails → Option ZeroCopyCreationError
connect_fault g e =
    cond (nat_lt g.port.settings.subscriber_max_buffer_size e.buffer_size) (Some creating.IncompatibleBufferSize)
    (create_fault Sender g.links (wanted g.port e))

-- one history entry offered to a new link, after a reclaim; a refusal is ignored
abbrev pub taken_up : Side → ℕ → PointerOffset → Result (Option PointerOffset) ZeroCopySendError → Side
taken_up g i o (Ok e) = record { port = let_go_if (hold g.port o) e; links = sent g.links i o }
taken_up g i o (Err e) = g

abbrev pub handed : ℕ → Side → PointerOffset → Side
handed i g o = taken_up (reclaimed_all g) i o (sends (reclaimed_all g).links i o)

-- the last n of a list
abbrev pub last_of : {X : Type 0} → ℕ → List X → List X
last_of n xs = drop (length xs - n) xs

-- the sender end attached at place q, the slot filled, and the history handed on
abbrev pub connected : Side → SubscriberDetails → ℕ → Side
connected g e q =
    fold (handed q)
    (record {
      port = with_slots g.port (slice_set g.port.slots e.place (Some (record { peer = e.port_id; place = q; tag = g.port.cycle })));
      links = created Sender g.links (wanted g.port e) q;
    })
    (last_of e.buffer_size g.port.history)

abbrev pub Connects : Side → SubscriberDetails → Side → Type 0
Connects g e h = MatchOption (connect_fault g e) ((q : ℕ) × MayTake g.links (wanted g.port e) q × (h ≡ connected g e q)) (λ f. h ≡ g)

-- THE UPDATE CYCLE

abbrev pub has_peer : PortId → Option Connection → Bool
has_peer id s = by s false (λ c. same_port c.peer id)

abbrev pub tagged : ℕ → Connection → Connection
tagged n c = record { peer = c.peer; place = c.place; tag = n }

abbrev pub tag_slot : Pub → ℕ → Pub
tag_slot p i = with_slots p (slice_set p.slots i (option_map (tagged p.cycle) (slot_at p i)))

-- one entry: its slot is tagged if it has that subscriber, else its link is removed and a new one made
abbrev pub Enters : Side → SubscriberDetails → Option ZeroCopyCreationError → Side → Type 0
Enters g e f h =
    Goes (has_peer e.port_id (slot_at g.port e.place))
    ((f ≡ None) × (h ≡ record { port = tag_slot g.port e.place; links = g.links }))
    ((m : Side) × Removes g e.place m × (f ≡ connect_fault m e) × Connects m e h)

abbrev pub first_of : {E : Type 0} → Option E → Option E → Option E
first_of None g = g
first_of (Some e) g = Some e

-- the entries in list order, with the first fault
abbrev pub Entries : Side → List SubscriberDetails → Option ZeroCopyCreationError → Side → Type 0
Entries g [] f h = (f ≡ None) × (h ≡ g)
Entries g (e ∷ es) f h = (x : Option ZeroCopyCreationError) × ((y : Option ZeroCopyCreationError) × ((m : Side) × Enters g e x m × Entries m es y h × (f ≡ first_of x y)))

-- m slots from i on: each link that was not tagged in this cycle is removed
abbrev pub is_stale : Pub → ℕ → Bool
is_stale p i = by (slot_at p i) false (λ c. not (c.tag == p.cycle))

pub data Sweeps : ℕ → ℕ → Side → Side → Type 0 where
  swept : {i n : ℕ} {g h : Side} → n ≡ 0 → h ≡ g → Sweeps i n g h
  visited : {i n : ℕ} {g m h : Side} → Goes (is_stale g.port i) (Removes g i m) (m ≡ g) → Sweeps (i + 1) n m h → Sweeps i (n + 1) g h

-- a cycle number that has not been used: at the greatest one all tags go back to 0
abbrev pub begun : Pub → ℕ → Pub
begun p n =
    cond (nat_lt p.cycle (2 ^ 64 - 1))
    (record { id = p.id; settings = p.settings; chunks = p.chunks; bytes = p.bytes; loans = p.loans; history = p.history; slots = p.slots; cycle = p.cycle + 1; seen = Some n; closed = p.closed })
    (record { id = p.id; settings = p.settings; chunks = p.chunks; bytes = p.bytes; loans = p.loans; history = p.history; slots = map (option_map (tagged 0)) p.slots; cycle = 1; seen = Some n; closed = p.closed })

abbrev pub is_seen : Option ℕ → ℕ → Bool
is_seen s n = by s false (λ m. nat_eq m n)

-- a place that is no slot, or that is named twice
abbrev pub names_place : ℕ → List SubscriberDetails → Bool
names_place i [] = false
names_place i (e ∷ es) = e.place == i || names_place i es

abbrev pub malformed : ℕ → List SubscriberDetails → Bool
malformed n [] = false
malformed n (e ∷ es) = (not (nat_lt e.place n) || names_place e.place es) || malformed n es

-- a fault of a cycle counts under DegradeAndFail alone
abbrev pub counts : DegradationAction → Option ZeroCopyCreationError → Option SendError
counts d None = None
counts Ignore (Some e) = None
counts Warn (Some e) = None
counts DegradeAndFail (Some e) = Some (send.ConnectionFailure e)

abbrev pub Cycles : Side → ℕ → List SubscriberDetails → Option SendError → Side → Type 0
Cycles g n es f h =
    (x : Option ZeroCopyCreationError) × ((m : Side) × Entries (record { port = begun g.port n; links = g.links }) es x m
    × Sweeps 0 (length m.port.slots) m h × (f ≡ counts g.port.settings.degradation_action x))

-- a list of subscribers
abbrev pub Updates : Side → ℕ → List SubscriberDetails → Option SendError → Side → Type 0
Updates g n es f h =
    Goes (is_seen g.port.seen n) ((f ≡ None) × (h ≡ g))
    (Goes (malformed (length g.port.slots) es) ((f ≡ Some send.MalformedList) × (h ≡ g)) (Cycles g n es f h))

-- HISTORY

abbrev pub noted : Pub → PointerOffset → Pub
noted p o =
    cond (p.settings.history_size == 0) p
    (let_go_if (with_history (hold p o) (overflowed p.settings.history_size p.history o)) (evicted p.settings.history_size p.history o))

-- DELIVERY

pub record Going : Type 0 where
  pub side : Side
  -- recipients so far
  pub got : ℕ
  -- the fault so far
  pub fault : Option SendError

-- what comes of one try at one slot
pub data Verdict : Type 0 where
  accepts : Option PointerOffset → Verdict
  passes : Verdict
  fails : SendError → Verdict
  tries_again : Verdict

abbrev pub Handler : Type 0
Handler = BackpressureInfo → BackpressureAction

abbrev pub followed : BackpressureStrategy → Verdict
followed strategy.RetryUntilDelivered = tries_again
followed strategy.DiscardData = passes

-- at a full buffer, after so many retries
abbrev pub acted : PublisherSettings → BackpressureAction → Verdict
acted s action.FollowBackpressureStrategy = followed s.backpressure_strategy
acted s action.Retry = tries_again
acted s action.DiscardData = passes
acted s action.DiscardDataAndFail = fails send.UnableToDeliver

abbrev pub within_budget : PublisherSettings → ℕ → Verdict → Verdict
within_budget s n (accepts e) = accepts e
within_budget s n passes = passes
within_budget s n (fails e) = fails e
within_budget s n tries_again = cond (nat_lt n s.max_retries) tries_again (fails send.UnableToDeliver)

abbrev pub degraded : DegradationAction → Verdict
degraded Ignore = passes
degraded Warn = passes
degraded DegradeAndFail = fails send.ConnectionCorrupted

abbrev pub has_receiver : Places → ℕ → Bool
has_receiver ps i = by (at ps i) false (λ l. attached l.receiver_end)

abbrev pub judged : Handler → Side → Connection → ℕ → Result (Option PointerOffset) ZeroCopySendError → Verdict
judged f g c n (Ok e) = accepts e
judged f g c n (Err sending.NotConnected) = passes
judged f g c n (Err sending.InternalError) = fails send.InternalError
judged f g c n (Err sending.ConnectionCorrupted) = degraded g.port.settings.degradation_action
judged f g c n (Err sending.UsedChunkListFull) = passes
judged f g c n (Err sending.ReceiveBufferFull) =
    cond (has_receiver g.links c.place)
    (within_budget g.port.settings n (acted g.port.settings (f (record { sender_port_id = g.port.id; receiver_port_id = c.peer; retries = n }))))
    passes

abbrev pub verdict : Handler → Side → Connection → PointerOffset → ℕ → Verdict
verdict f g c o n = judged f g c n (sends g.links c.place o)

-- the worse of two faults: InternalError before ConnectionCorrupted before UnableToDeliver
abbrev pub is_corrupted : Option SendError → Bool
is_corrupted None = false
is_corrupted (Some send.LoanNotLive) = false
is_corrupted (Some send.ConnectionBrokenSinceSenderNoLongerExists) = false
is_corrupted (Some send.MalformedList) = false
is_corrupted (Some (send.ConnectionFailure e)) = false
is_corrupted (Some send.InternalError) = false
is_corrupted (Some send.ConnectionCorrupted) = true
is_corrupted (Some send.UnableToDeliver) = false

abbrev pub is_internal : Option SendError → Bool
is_internal None = false
is_internal (Some send.LoanNotLive) = false
is_internal (Some send.ConnectionBrokenSinceSenderNoLongerExists) = false
is_internal (Some send.MalformedList) = false
is_internal (Some (send.ConnectionFailure e)) = false
is_internal (Some send.InternalError) = true
is_internal (Some send.ConnectionCorrupted) = false
is_internal (Some send.UnableToDeliver) = false

abbrev pub worse : Option SendError → SendError → Option SendError
worse f e = cond (is_corrupted f && not (is_internal (Some e))) f (Some e)

-- what is left of a try that ends
abbrev pub ended : Going → Connection → PointerOffset → Verdict → Going
ended a c o (accepts e) = record { side = record { port = let_go_if (hold a.side.port o) e; links = sent a.side.links c.place o }; got = a.got + 1; fault = a.fault }
ended a c o passes = a
ended a c o (fails e) = record { side = a.side; got = a.got; fault = worse a.fault e }
ended a c o tries_again = a

abbrev pub again : Verdict → Bool
again (accepts e) = false
again passes = false
again (fails e) = false
again tries_again = true

abbrev pub with_links : Going → Places → Going
with_links a ps = record { side = record { port = a.side.port; links = ps }; got = a.got; fault = a.fault }

-- one slot, after n retries: a try that ends, or a turn of the bank and the whole try again
pub data Tries (f : Handler) (o : PointerOffset) (c : Connection) : ℕ → Going → Going → Type 0 where
  tried : {n : ℕ} {a b : Going} → again (verdict f a.side c o n) ≡ false → b ≡ ended a c o (verdict f a.side c o n) → Tries f o c n a b
  turned : {n : ℕ} {a b : Going} (ps : Places) → again (verdict f a.side c o n) ≡ true → Turned a.side.links ps → Tries f o c (n + 1) (with_links a ps) b → Tries f o c n a b

-- the slots in rising order; a broken link ends the round
pub data Rounds (f : Handler) (o : PointerOffset) : List (Option Connection) → Going → Going → Type 0 where
  done : {a b : Going} → b ≡ a → Rounds f o [] a b
  skipped : {ss : List (Option Connection)} {a b : Going} → Rounds f o ss a b → Rounds f o (None ∷ ss) a b
  stopped : {c : Connection} {ss : List (Option Connection)} {a b : Going} → Tries f o c 0 a b → is_internal b.fault ≡ true → Rounds f o (Some c ∷ ss) a b
  next : {c : Connection} {ss : List (Option Connection)} {a m b : Going} → Tries f o c 0 a m → is_internal m.fault ≡ false → Rounds f o ss m b → Rounds f o (Some c ∷ ss) a b

abbrev pub delivered : Going → Result ℕ SendError
delivered b = by b.fault (Ok b.got) (λ e. Err e)

abbrev pub Delivers : Handler → Side → PointerOffset → Result ℕ SendError → Side → Type 0
Delivers f g o r h =
    (b : Going) × Rounds f o g.port.slots (record { side = reclaimed_all g; got = 0; fault = None }) b
    × (r ≡ delivered b) × (h ≡ b.side)

-- SEND

-- the loan ends last, in every case
abbrev pub spent : Side → PointerOffset → Side
spent g o = record { port = unloaned g.port o; links = g.links }

abbrev pub Posts : Handler → Side → PointerOffset → Option SendError → Result ℕ SendError → Side → Type 0
Posts f g o (Some e) r h = (r ≡ Err e) × (h ≡ g)
Posts f g o None r h = Delivers f (record { port = noted g.port o; links = g.links }) o r h

abbrev pub Sends : Handler → Side → PointerOffset → ℕ → List SubscriberDetails → Result ℕ SendError → Side → Type 0
Sends f g o n es r h =
    Goes (is_live g.port o)
    (Goes g.port.closed ((r ≡ Err send.ConnectionBrokenSinceSenderNoLongerExists) × (h ≡ spent g o))
    ((x : Option SendError) × ((m : Side) × ((k : Side) × Updates g n es x m × Posts f m o x r k × (h ≡ spent k o)))))
    ((r ≡ Err send.LoanNotLive) × (h ≡ g))

-- CLOSING

-- m slots from i on: every link is removed
pub data Empties : ℕ → ℕ → Side → Side → Type 0 where
  none : {i n : ℕ} {g h : Side} → n ≡ 0 → h ≡ g → Empties i n g h
  one : {i n : ℕ} {g m h : Side} → Removes g i m → Empties (i + 1) n m h → Empties i (n + 1) g h

abbrev pub shut : Pub → Pub
shut p = record { id = p.id; settings = p.settings; chunks = p.chunks; bytes = p.bytes; loans = p.loans; history = []; slots = p.slots; cycle = p.cycle; seen = p.seen; closed = true }

abbrev pub Closes : Side → Option CloseError → Side → Type 0
Closes g f h =
    Goes g.port.closed ((f ≡ Some close.ConnectionBrokenSinceSenderNoLongerExists) × (h ≡ g))
    ((m : Side) × Empties 0 (length g.port.slots) g m × (f ≡ None)
    × (h ≡ record { port = let_go_all (shut m.port) m.port.history; links = m.links }))
