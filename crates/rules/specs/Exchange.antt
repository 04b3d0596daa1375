-- An exchange: publishers and subscribers over one bank, and every call as one relation.
use Rattle.std.specs.Prelude.{◌≡◌, ℕ, ◌+◌, Bool, true, false, cond, ◌&&◌, List, [], ◌∷◌, ◌++◌, map, replicate, is_some, Some, None, Ok, Err, vec_items, Option, Result, MatchOption, nat_le, slice_index, slice_index_or}
use Rattle.container.specs.Queue.{has}
use Rattle.elementary.specs.Ids.{same_port, same_chunk}
use Rattle.elementary.specs.Refusals.{loan_refusal, fill_refusal, send_refusal, return_refusal, close_refusal, receive_refusal, releasing_refusal, read_refusal, update_refusal, settings_refusal}
use Rattle.elementary.specs.declared.port_id.PortId.{PortId}
use Rattle.elementary.specs.declared.pointer_offset.PointerOffset.{PointerOffset}
use Rattle.elementary.specs.declared.chunk_details.ChunkDetails.{ChunkDetails}
use Rattle.elementary.specs.declared.link.Mark.{Mark}
use Rattle.elementary.specs.declared.error.Refusal.{Refusal}
use Rattle.elementary.specs.declared.error.LoanError.{LoanError}
use Rattle.elementary.specs.declared.error.SendError.{SendError}
use Rattle.elementary.specs.declared.error.ReceiveError.{ReceiveError}
use Rattle.elementary.specs.declared.error.ReadError.{ReadError}
use Rattle.elementary.specs.declared.error.ReadError.TheVariants as read
use Rattle.elementary.specs.declared.error.CloseError.{CloseError}
use Rattle.elementary.specs.declared.error.UpdateError.{UpdateError}
use Rattle.elementary.specs.declared.error.SettingsError.TheVariants.{OutOfRange}
use Rattle.rules.specs.declared.call.Call.{Call}
use Rattle.rules.specs.declared.call.Call.TheVariants.{Loan, Fill, Send, Return, ClosePublisher, Receive, Release, Read, Update, CloseSubscriber, SetMark, SetPace}
use Rattle.rules.specs.declared.call.Answer.{Answer}
use Rattle.rules.specs.declared.call.Answer.TheVariants.{Done, Lent, Sent, Received, Payload, Refused, NoSuchPort}
use Rattle.rules.specs.Memory.{placed, taken_at}
use Rattle.elementary.specs.Settings.{publisher_in_range, subscriber_in_range}
use Rattle.rules.specs.Bytes.{place, room, read_fault}
use Rattle.rules.specs.Pools.{by}
use Rattle.rules.specs.Links.{attached}
use Rattle.rules.specs.Bank.{Goes, Places, at, changed, with_mark, Marked}
use Rattle.rules.specs.Publisher as publisher
use Rattle.rules.specs.Publisher.{Pub, Side, Handler}
use Rattle.rules.specs.Subscriber as subscriber
use Rattle.rules.specs.Subscriber.{Sub, Half, Translation}

pub record State : Type 0 where
  pub pubs : List Pub
  pub subs : List Sub
  pub links : Places
  -- whether marks and paces can be set: the bank is a rig
  pub rigged : Bool
  -- what each publisher's handler answers
  pub handlers : PortId → Handler

-- PORTS BY THEIR IDS

-- the port of an id, and the ports with another record for it; where the id is of none, nothing and no change
abbrev pub port_of : {X : Type 0} → (X → PortId) → PortId → List X → Option X
port_of id_of id [] = None
port_of id_of id (x ∷ xs) = cond (same_port (id_of x) id) (Some x) (port_of id_of id xs)

abbrev pub with_port : {X : Type 0} → (X → PortId) → PortId → X → List X → List X
with_port id_of id y [] = []
with_port id_of id y (x ∷ xs) = cond (same_port (id_of x) id) (y ∷ xs) (x ∷ with_port id_of id y xs)

abbrev pub pub_of : PortId → List Pub → Option Pub
pub_of id ps = port_of (λ (p : Pub). p.id) id ps

abbrev pub with_pub : PortId → Pub → List Pub → List Pub
with_pub id q ps = with_port (λ (p : Pub). p.id) id q ps

abbrev pub sub_of : PortId → List Sub → Option Sub
sub_of id ss = port_of (λ (s : Sub). s.id) id ss

abbrev pub with_sub : PortId → Sub → List Sub → List Sub
with_sub id r ss = with_port (λ (s : Sub). s.id) id r ss

abbrev pub side_of : State → Pub → Side
side_of s p = record { port = p; links = s.links }

abbrev pub half_of : State → Sub → Half
half_of s u = record { port = u; links = s.links }

-- the exchange with what a call made of one port and of the bank
abbrev pub after_pub : State → PortId → Side → State
after_pub s id h = record { pubs = with_pub id h.port s.pubs; subs = s.subs; links = h.links; rigged = s.rigged; handlers = s.handlers }

abbrev pub after_sub : State → PortId → Half → State
after_sub s id h = record { pubs = s.pubs; subs = with_sub id h.port s.subs; links = h.links; rigged = s.rigged; handlers = s.handlers }

-- a call at a port, or at none
abbrev pub AtPub : State → PortId → (Side → Side → Type 0) → Answer → State → Type 0
AtPub s id P a t = MatchOption (pub_of id s.pubs) ((a ≡ NoSuchPort) × (t ≡ s)) (λ p. (h : Side) × P (side_of s p) h × (t ≡ after_pub s id h))

abbrev pub AtSub : State → PortId → (Half → Half → Type 0) → Answer → State → Type 0
AtSub s id P a t = MatchOption (sub_of id s.subs) ((a ≡ NoSuchPort) × (t ≡ s)) (λ u. (h : Half) × P (half_of s u) h × (t ≡ after_sub s id h))

-- WHAT IS ANSWERED

-- done, or refused
abbrev pub told : {E : Type 0} → (E → Refusal) → Option E → Answer
told f None = Done
told f (Some e) = Refused (f e)

abbrev pub told_loan : Result PointerOffset LoanError → Answer
told_loan (Ok o) = Lent o
told_loan (Err e) = Refused (loan_refusal e)

abbrev pub told_send : Result ℕ SendError → Answer
told_send (Ok n) = Sent n
told_send (Err e) = Refused (send_refusal e)

abbrev pub told_receive : Result (Option ChunkDetails) ReceiveError → Answer
told_receive (Ok x) = Received x
told_receive (Err e) = Refused (receive_refusal e)

-- WHAT A SUBSCRIBER SEES OF THE PUBLISHERS

abbrev pub translation : State → Translation
translation s id n o = by (pub_of id s.pubs) None (λ p. placed p.chunks.mem.segments n o.value)

-- a closed publisher is still one
abbrev pub is_known : State → PortId → Bool
is_known s id = is_some (pub_of id s.pubs)

abbrev pub is_borrowed : Places → ℕ → PointerOffset → Bool
is_borrowed ps i o = by (at ps i) false (λ l. attached l.receiver_end && has same_chunk l.borrowed o)

-- a reading wants a key with a connection, its origin, a chunk that is borrowed there, a taken bucket, and then the bytes
abbrev pub read_refused : State → Half → ChunkDetails → Option ReadError
read_refused s h x =
    by (subscriber.over h x) (Some read.NotBorrowed) (λ c.
    cond (is_borrowed s.links c.place x.offset)
    (by (pub_of x.origin s.pubs) (Some read.NotBorrowed) (λ p. read_fault p.chunks.mem p.bytes x.offset.value))
    (Some read.NotBorrowed))

abbrev pub told_read : State → ChunkDetails → Option ReadError → Answer
told_read s x (Some e) = Refused (read_refusal e)
told_read s x None =
    by (pub_of x.origin s.pubs) Done (λ p. Payload (place p.chunks.mem x.offset.value) (room p.chunks.mem x.offset.value))

-- A RIG'S SETTINGS

-- refused by 1 where nothing can be set
abbrev pub set_answer : Bool → Answer
set_answer true = Done
set_answer false = Refused (settings_refusal OutOfRange)

abbrev pub may_set : State → ℕ → Bool
may_set s i = s.rigged && is_some (at s.links i)

abbrev pub after_links : State → Places → State
after_links s ps = record { pubs = s.pubs; subs = s.subs; links = ps; rigged = s.rigged; handlers = s.handlers }

-- EVERY CALL

-- open is only which bucket a memory gives, where a new link stands, in which order a detached link's chunks come, and what a turn moves
abbrev pub Step : State → Call → Answer → State → Type 0
Step s (Loan id size align) a t = AtPub s id (λ g h. (r : Result PointerOffset LoanError) × publisher.Loans g size align r h × (a ≡ told_loan r)) a t
Step s (Fill id o bytes) a t =
    AtPub s id (λ g h. (h ≡ record { port = publisher.fill_after g.port o (vec_items bytes); links = g.links }) × (a ≡ told fill_refusal (publisher.fill_refusal g.port o (vec_items bytes)))) a t
Step s (Send id o n list) a t = AtPub s id (λ g h. (r : Result ℕ SendError) × publisher.Sends (s.handlers id) g o n (vec_items list) r h × (a ≡ told_send r)) a t
Step s (Return id o) a t =
    AtPub s id (λ g h. (h ≡ record { port = publisher.return_after g.port o; links = g.links }) × (a ≡ told return_refusal (publisher.return_refusal g.port o))) a t
Step s (ClosePublisher id) a t = AtPub s id (λ g h. (f : Option CloseError) × publisher.Closes g f h × (a ≡ told close_refusal f)) a t
Step s (Receive id) a t =
    AtSub s id (λ g h. (h ≡ subscriber.receive_after (translation s) g) × (a ≡ told_receive (subscriber.receive_answer (translation s) g))) a t
Step s (Release id x) a t = AtSub s id (λ g h. (h ≡ subscriber.release_after g x) × (a ≡ told releasing_refusal (subscriber.release_fault g x))) a t
Step s (Read id x) a t = AtSub s id (λ g h. (h ≡ g) × (a ≡ told_read s x (read_refused s g x))) a t
Step s (Update id n list) a t = AtSub s id (λ g h. (f : Option UpdateError) × subscriber.Updates (is_known s) g n (vec_items list) f h × (a ≡ told update_refusal f)) a t
Step s (CloseSubscriber id) a t = AtSub s id (λ g h. (h ≡ subscriber.closed g) × (a ≡ Done)) a t
Step s (SetMark i m) a t =
    (a ≡ set_answer (may_set s i))
    × Goes (may_set s i) ((x : Mark) × Marked m x × (t ≡ after_links s (changed s.links i (λ l. with_mark l x)))) (t ≡ s)
Step s (SetPace i n) a t = (a ≡ set_answer (may_set s i && nat_le n 8)) × (t ≡ s)

-- A NEW EXCHANGE

abbrev pub NoCounts : List (List ℕ) → Type 0
NoCounts cs = (i j : ℕ) → slice_index (slice_index_or cs i []) j ≡ 0

pub record NewPub (p : Pub) : Type 0 where
  pub range : publisher_in_range p.settings ≡ true
  pub free : (o : ℕ) → taken_at p.chunks.mem.segments o ≡ false
  pub counts : NoCounts p.chunks.counts
  pub loans : p.loans ≡ []
  pub history : p.history ≡ []
  pub slots : p.slots ≡ replicate p.settings.max_subscribers None
  pub seen : p.seen ≡ None
  pub closed : p.closed ≡ false

pub record NewSub (u : Sub) : Type 0 where
  pub range : subscriber_in_range u.settings ≡ true
  pub slots : u.slots ≡ replicate u.settings.max_publishers None
  pub storage : u.storage ≡ replicate (u.settings.max_publishers + u.settings.max_expired_connections) None
  pub expired : u.expired ≡ []
  pub seen : u.seen ≡ None

-- the ids of all ports
abbrev pub ids : State → List PortId
ids s = map (λ (p : Pub). p.id) s.pubs ++ map (λ (u : Sub). u.id) s.subs

abbrev pub ApartIds : List PortId → Type 0
ApartIds [] = Unit {0}
ApartIds (i ∷ is) = (has same_port is i ≡ false) × ApartIds is

pub record New (s : State) : Type 0 where
  pub pubs : (p : Pub) (id : PortId) → pub_of id s.pubs ≡ Some p → NewPub p
  pub subs : (u : Sub) (id : PortId) → sub_of id s.subs ≡ Some u → NewSub u
  pub links : (i : ℕ) → at s.links i ≡ None
  pub ids : ApartIds (ids s)

-- A RUN

pub record Moment : Type 0 where
  pub before : State
  pub call : Call
  pub answer : Answer
  pub after : State

-- the moments of a run, the newest first, each as its call is defined and each following on the one before
abbrev pub Story : State → List Moment → State → Type 0
Story s [] t = t ≡ s
Story s (m ∷ ms) t = (t ≡ m.after) × Step m.before m.call m.answer m.after × Story s ms m.before
