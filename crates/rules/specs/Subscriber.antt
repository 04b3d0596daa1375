-- A subscriber: its records, and what each of its calls makes of them and of the bank.
use Rattle.std.specs.Prelude.{◌≡◌, ℕ, zero, suc, ◌+◌, ◌-◌, ◌^◌, Bool, true, false, cond, not, ◌&&◌, ◌||◌, List, [], ◌∷◌, ◌++◌, map, length, drop, replicate, is_some, Some, None, Ok, Err, Option, Result, ◌==◌, nat_lt, slice_index_or, slice_set}
use Rattle.std.specs.List.{remove}
use Rattle.std.specs.Option.{option_map}
use Rattle.elementary.specs.Ids.{same_port}
use Rattle.elementary.specs.declared.port_id.PortId.{PortId}
use Rattle.elementary.specs.declared.pointer_offset.PointerOffset.{PointerOffset}
use Rattle.elementary.specs.declared.port_list.PublisherDetails.{PublisherDetails}
use Rattle.elementary.specs.declared.chunk_details.ChunkDetails.{ChunkDetails}
use Rattle.elementary.specs.declared.link.LinkDetails.{LinkDetails}
use Rattle.elementary.specs.declared.link.End.TheVariants.{Receiver}
use Rattle.elementary.specs.declared.settings.SubscriberSettings.{SubscriberSettings}
use Rattle.elementary.specs.declared.backpressure.DegradationAction.{DegradationAction}
use Rattle.elementary.specs.declared.backpressure.DegradationAction.TheVariants.{Ignore, Warn, DegradeAndFail}
use Rattle.elementary.specs.declared.error.ReceiveError.{ReceiveError}
use Rattle.elementary.specs.declared.error.ReceiveError.TheVariants as receive
use Rattle.elementary.specs.declared.error.UpdateError.{UpdateError}
use Rattle.elementary.specs.declared.error.UpdateError.TheVariants as update
use Rattle.elementary.specs.declared.error.ZeroCopyReceiveError.{ZeroCopyReceiveError}
use Rattle.elementary.specs.declared.error.ZeroCopyReceiveError.TheVariants as receiving
use Rattle.elementary.specs.declared.error.ZeroCopyReleaseError.{ZeroCopyReleaseError}
use Rattle.elementary.specs.declared.error.ZeroCopyReleaseError.TheVariants as releasing
use Rattle.elementary.specs.declared.error.ZeroCopyCreationError.{ZeroCopyCreationError}
use Rattle.rules.specs.Pools.{by}
use Rattle.rules.specs.Bank.{Goes, Places, receives, received, release_faults, given_back, create_fault, MayTake, created, detached, has_data, borrow_count, first}
use Rattle.rules.specs.Publisher.{first_of, is_seen}

-- a stored connection: with whom, at which place of the bank, the cycle in which a list named it last, and the segments of its view
pub record Stored : Type 0 where
  pub peer : PortId
  pub place : ℕ
  pub tag : ℕ
  pub segments : ℕ

pub record Sub : Type 0 where
  pub id : PortId
  pub settings : SubscriberSettings
  -- a key for each slot that has one
  pub slots : List (Option ℕ)
  -- a connection for each key that has one
  pub storage : List (Option Stored)
  -- keys of connections that left their slot with data or borrows
  pub expired : List ℕ
  pub cycle : ℕ
  pub seen : Option ℕ

-- a subscriber beside the bank
pub record Half : Type 0 where
  pub port : Sub
  pub links : Places

abbrev pub with_links : Half → Places → Half
with_links s ps = record { port = s.port; links = ps }

abbrev pub with_slots : Half → List (Option ℕ) → Half
with_slots s xs = record { port = record { id = s.port.id; settings = s.port.settings; slots = xs; storage = s.port.storage; expired = s.port.expired; cycle = s.port.cycle; seen = s.port.seen }; links = s.links }

abbrev pub with_storage : Half → List (Option Stored) → Half
with_storage s xs = record { port = record { id = s.port.id; settings = s.port.settings; slots = s.port.slots; storage = xs; expired = s.port.expired; cycle = s.port.cycle; seen = s.port.seen }; links = s.links }

abbrev pub with_expired : Half → List ℕ → Half
with_expired s xs = record { port = record { id = s.port.id; settings = s.port.settings; slots = s.port.slots; storage = s.port.storage; expired = xs; cycle = s.port.cycle; seen = s.port.seen }; links = s.links }

abbrev pub key_at : Half → ℕ → Option ℕ
key_at s i = slice_index_or s.port.slots i None

abbrev pub stored_at : Half → ℕ → Option Stored
stored_at s k = slice_index_or s.port.storage k None

abbrev pub has_borrows : Places → ℕ → Bool
has_borrows ps i = nat_lt 0 (borrow_count ps i)

-- PREPARING A CONNECTION FOR REMOVAL

-- a key's connection dropped, its end detached
abbrev pub dropped : Half → ℕ → Half
dropped s k = by (stored_at s k) s (λ c. with_links (with_storage s (slice_set s.port.storage k None)) (detached Receiver s.links c.place))

-- an entry of the expired list meets a condition if it has no connection, or the condition holds of its data and borrows
abbrev pub meets : (Bool → Bool → Bool) → Half → ℕ → Bool
meets m s k = by (stored_at s k) true (λ c. m (has_data s.links c.place) (has_borrows s.links c.place))

-- the first entry that passes, with its place counted from n
abbrev pub first_from : (ℕ → Bool) → ℕ → List ℕ → Option (ℕ × ℕ)
first_from t n [] = None
first_from t n (k ∷ ks) = cond (t k) (Some (n, k)) (first_from t (n + 1) ks)

abbrev pub neither : Bool → Bool → Bool
neither d b = not (d || b)

abbrev pub borrowless : Bool → Bool → Bool
borrowless d b = not b

abbrev pub found : (Bool → Bool → Bool) → Half → Option (ℕ × ℕ)
found m s = first_from (meets m s) 0 s.port.expired

-- the entry that makes room for a connection with or without borrows
abbrev pub victim : Half → Bool → Option (ℕ × ℕ)
victim s b = by (found neither s) (cond b (found borrowless s) None) (λ e. Some e)

-- the entry at a place leaves the expired list, and a key's connection is dropped
abbrev pub struck : Half → ℕ → ℕ → Half
struck s n k = dropped (with_expired s (remove s.port.expired n)) k

abbrev pub has_room : Half → Bool
has_room s = nat_lt (length s.port.expired) s.port.settings.max_expired_connections

abbrev pub room_made : Half → Bool → Half
room_made s b = cond (has_room s) s (by (victim s b) s (λ e. struck s e.0 e.1))

-- it joins the list; where that is still full it is dropped, or refused if it has borrows
abbrev pub listed : Half → ℕ → Bool → Half
listed s k b = cond (has_room s) (with_expired s (s.port.expired ++ k ∷ [])) (cond b s (dropped s k))

abbrev pub list_fault : Half → Bool → Option UpdateError
list_fault s b = cond (has_room s) None (cond b (Some update.ExpiredConnectionsFull) None)

abbrev pub busy : Half → Stored → Bool
busy s c = has_data s.links c.place || has_borrows s.links c.place

abbrev pub key_prepared : Half → ℕ → Half
key_prepared s k =
    by (stored_at s k) s (λ c.
    cond (busy s c) (listed (room_made s (has_borrows s.links c.place)) k (has_borrows s.links c.place)) (dropped s k))

abbrev pub key_fault : Half → ℕ → Option UpdateError
key_fault s k = by (stored_at s k) None (λ c. cond (busy s c) (list_fault (room_made s (has_borrows s.links c.place)) (has_borrows s.links c.place)) None)

abbrev pub prepared : Half → ℕ → Half
prepared s i = by (key_at s i) s (key_prepared s)

abbrev pub prepare_fault : Half → ℕ → Option UpdateError
prepare_fault s i = by (key_at s i) None (key_fault s)

-- THE LIST UPDATE

abbrev pub names_place : ℕ → List PublisherDetails → Bool
names_place i [] = false
names_place i (e ∷ es) = e.place == i || names_place i es

abbrev pub bad_entry : (PortId → Bool) → ℕ → PublisherDetails → Bool
bad_entry known n e = not (nat_lt e.place n) || ((e.max_number_of_segments == 0 || nat_lt 4 e.max_number_of_segments) || not (known e.port_id))

abbrev pub malformed : (PortId → Bool) → ℕ → List PublisherDetails → Bool
malformed known n [] = false
malformed known n (e ∷ es) = (bad_entry known n e || names_place e.place es) || malformed known n es

abbrev pub tagged : ℕ → Stored → Stored
tagged n c = record { peer = c.peer; place = c.place; tag = n; segments = c.segments }

-- a cycle number that has not been used: at the greatest one all tags go back to 0
abbrev pub begun : Half → ℕ → Half
begun s n =
    cond (nat_lt s.port.cycle (2 ^ 64 - 1))
    (record { port = record { id = s.port.id; settings = s.port.settings; slots = s.port.slots; storage = s.port.storage; expired = s.port.expired; cycle = s.port.cycle + 1; seen = Some n }; links = s.links })
    (record { port = record { id = s.port.id; settings = s.port.settings; slots = s.port.slots; storage = map (option_map (tagged 0)) s.port.storage; expired = s.port.expired; cycle = 1; seen = Some n }; links = s.links })

abbrev pub connection_at : Half → ℕ → Option Stored
connection_at s i = by (key_at s i) None (stored_at s)

abbrev pub has_peer : Half → PublisherDetails → Bool
has_peer s e = by (connection_at s e.place) false (λ c. same_port c.peer e.port_id)

abbrev pub tag_slot : Half → ℕ → Half
tag_slot s i = by (key_at s i) s (λ k. with_storage s (slice_set s.port.storage k (option_map (tagged s.port.cycle) (stored_at s k))))

abbrev pub wanted : Half → PublisherDetails → LinkDetails
wanted s e = record {
  sender_port_id = e.port_id;
  receiver_port_id = s.port.id;
  buffer_size = s.port.settings.buffer_size;
  max_borrowed_samples = s.port.settings.max_borrowed_samples;
  enable_safe_overflow = s.port.settings.enable_safe_overflow;
}

-- the smallest key without a connection
abbrev pub is_unused : Option Stored → Bool
is_unused None = true
is_unused (Some c) = false

abbrev pub free_key : Half → ℕ
free_key s = first is_unused s.port.storage

abbrev pub has_key : Half → Bool
has_key s = nat_lt (free_key s) (length s.port.storage)

abbrev pub link_fault : Half → PublisherDetails → Option ZeroCopyCreationError
link_fault s e = create_fault Receiver s.links (wanted s e)

abbrev pub make_fault : Half → PublisherDetails → Option UpdateError
make_fault s e = by (link_fault s e) (cond (has_key s) None (Some update.NoUnusedKey)) (λ f. Some (update.ConnectionFailure f))

abbrev pub stored_new : Half → PublisherDetails → ℕ → Half
stored_new s e q =
    with_links
    (with_slots (with_storage s (slice_set s.port.storage (free_key s) (Some (record { peer = e.port_id; place = q; tag = s.port.cycle; segments = e.max_number_of_segments }))))
    (slice_set s.port.slots e.place (Some (free_key s))))
    (created Receiver s.links (wanted s e) q)

-- the new end at place q: stored, or without a key detached again
abbrev pub made_at : Half → PublisherDetails → ℕ → Half
made_at s e q = cond (has_key s) (stored_new s e q) (with_links s (detached Receiver (created Receiver s.links (wanted s e) q) q))

abbrev pub MakesBy : Option ZeroCopyCreationError → Half → PublisherDetails → Half → Type 0
MakesBy None s e t = (q : ℕ) × MayTake s.links (wanted s e) q × (t ≡ made_at s e q)
MakesBy (Some f) s e t = t ≡ s

abbrev pub Makes : Half → PublisherDetails → Half → Type 0
Makes s e t = MakesBy (link_fault s e) s e t

abbrev pub Enters : Half → PublisherDetails → Half → Type 0
Enters s e t =
    Goes (has_peer s e) (t ≡ tag_slot s e.place)
    (Goes (is_some (prepare_fault s e.place)) (t ≡ prepared s e.place) (Makes (prepared s e.place) e t))

abbrev pub entry_fault : Half → PublisherDetails → Option UpdateError
entry_fault s e = cond (has_peer s e) None (first_of (prepare_fault s e.place) (make_fault (prepared s e.place) e))

-- whether a fault ends the cycle, and whether it counts in the end
abbrev pub stops : Option UpdateError → Bool
stops None = false
stops (Some update.MalformedList) = true
stops (Some (update.ConnectionFailure f)) = false
stops (Some update.ExpiredConnectionsFull) = true
stops (Some update.NoUnusedKey) = true

abbrev pub counts : DegradationAction → Option UpdateError → Option UpdateError
counts Ignore f = None
counts Warn f = None
counts DegradeAndFail f = f

-- the end of a cycle: m slots from i on, each visited once
pub record Ended : Type 0 where
  pub fault : Option UpdateError
  pub half : Half

abbrev pub is_stale : Half → ℕ → Bool
is_stale s i = by (connection_at s i) false (λ c. not (c.tag == s.port.cycle))

abbrev pub taken_out : Half → ℕ → Half
taken_out s i = cond (is_some (prepare_fault s i)) (prepared s i) (with_slots (prepared s i) (slice_set (prepared s i).port.slots i None))

abbrev pub visited : Half → ℕ → Half
visited s i = cond (is_stale s i) (taken_out s i) s

abbrev pub visit_fault : Half → ℕ → Option UpdateError
visit_fault s i = cond (is_stale s i) (prepare_fault s i) None

abbrev pub swept : Half → ℕ → ℕ → Ended
swept s i zero = record { fault = None; half = s }
swept s i (suc m) = cond (is_some (visit_fault s i)) (record { fault = visit_fault s i; half = visited s i }) (swept (visited s i) (i + 1) m)

abbrev pub finished : Half → Ended
finished s = swept s 0 (length s.port.slots)

-- the entries in list order with the first failed creation, then the end of the cycle
abbrev pub Cycles : Half → List PublisherDetails → Option UpdateError → Option UpdateError → Half → Type 0
Cycles s [] p r t = (r ≡ first_of (finished s).fault (counts s.port.settings.degradation_action p)) × (t ≡ (finished s).half)
Cycles s (e ∷ es) p r t =
    (m : Half) × Enters s e m × Goes (stops (entry_fault s e)) ((r ≡ entry_fault s e) × (t ≡ m)) (Cycles m es (first_of p (entry_fault s e)) r t)

abbrev pub Updates : (PortId → Bool) → Half → ℕ → List PublisherDetails → Option UpdateError → Half → Type 0
Updates known s n es r t =
    Goes (is_seen s.port.seen n) ((r ≡ None) × (t ≡ s))
    (Goes (malformed known (length s.port.slots) es) ((r ≡ Some update.MalformedList) × (t ≡ s)) (Cycles (begun s n) es None r t))

-- RECEIVE

-- where a publisher's chunk lies, for a view of so many segments
abbrev pub Translation : Type 0
Translation = PortId → ℕ → PointerOffset → Option ℕ

-- what a link gave, as its connection answers it: a chunk without translation is none
abbrev pub told : Translation → ℕ → Stored → Result (Option PointerOffset) ZeroCopyReceiveError → Result (Option ChunkDetails) ReceiveError
told t k c (Ok None) = Ok None
told t k c (Ok (Some o)) = by (t c.peer c.segments o) (Ok None) (λ a. Ok (Some (record { connection_key = k; offset = o; origin = c.peer })))
told t k c (Err receiving.ReceiveWouldExceedMaxBorrowValue) = Err receive.ExceedsMaxBorrows
told t k c (Err receiving.NotConnected) = Ok None

-- and is released again
abbrev pub left : Translation → Stored → Result (Option PointerOffset) ZeroCopyReceiveError → Places → Places
left t c (Ok None) ps = ps
left t c (Ok (Some o)) ps = by (t c.peer c.segments o) (given_back ps c.place o) (λ a. ps)
left t c (Err e) ps = ps

abbrev pub asks : Translation → Places → ℕ → Stored → Result (Option ChunkDetails) ReceiveError
asks t ps k c = told t k c (receives ps c.place)

abbrev pub asked : Translation → Places → Stored → Places
asked t ps c = left t c (receives ps c.place) (received ps c.place)

-- the expired list, one walk: it gives a chunk, or comes to an entry to be dropped, or to the end
pub data Way : Type 0 where
  gives : ChunkDetails → Way
  drops : ℕ → ℕ → Way
  ends : Way

pub record Walk : Type 0 where
  pub way : Way
  pub links : Places

-- after the entry numbered n was asked: the rest where it is passed
abbrev pub passed : Places → ℕ → ℕ → Stored → Result (Option ChunkDetails) ReceiveError → Walk → Walk
passed ps n k c (Err e) rest = rest
passed ps n k c (Ok (Some x)) rest = record { way = gives x; links = ps }
passed ps n k c (Ok None) rest = cond (has_data ps c.place || has_borrows ps c.place) rest (record { way = drops n k; links = ps })

abbrev pub walk : Translation → List (Option Stored) → Places → ℕ → List ℕ → Walk
walk t st ps n [] = record { way = ends; links = ps }
walk t st ps n (k ∷ ks) = by (slice_index_or st k None) (record { way = drops n k; links = ps }) (λ c. passed (asked t ps c) n k c (asks t ps k c) (walk t st (asked t ps c) (n + 1) ks))

pub record Walked : Type 0 where
  pub chunk : Option ChunkDetails
  pub half : Half

abbrev pub onward : Half → Way → (Half → ℕ → Walked) → Walked
onward s (gives x) f = record { chunk = Some x; half = s }
onward s (drops n k) f = f (struck s n k) n
onward s ends f = record { chunk = None; half = s }

-- walks that begin after so many entries, until one drops none; m is at least the number of entries, each drop takes one
abbrev pub walks : Translation → Half → ℕ → ℕ → Walked
walks t s skip zero = record { chunk = None; half = s }
walks t s skip (suc m) =
    onward (with_links s (walk t s.port.storage s.links 0 (drop skip s.port.expired)).links)
    (walk t s.port.storage s.links 0 (drop skip s.port.expired)).way (λ x n. walks t x n m)

abbrev pub expired_walk : Translation → Half → Walked
expired_walk t s = walks t s 0 (length s.port.expired)

-- the storage by rising key. some: a connection had data; free: one of those was not at its limit
pub record Served : Type 0 where
  pub answer : Result (Option ChunkDetails) ReceiveError
  pub links : Places

abbrev pub served : Places → Result (Option ChunkDetails) ReceiveError → Served → Served → Served
served ps (Ok (Some x)) limit none = record { answer = Ok (Some x); links = ps }
served ps (Ok None) limit none = none
served ps (Err e) limit none = limit

abbrev pub serve : Translation → Places → Bool → Bool → ℕ → List (Option Stored) → Served
serve t ps some free k [] = record { answer = cond (some && not free) (Err receive.ExceedsMaxBorrows) (Ok None); links = ps }
serve t ps some free k (None ∷ cs) = serve t ps some free (k + 1) cs
serve t ps some free k (Some c ∷ cs) =
    cond (has_data ps c.place)
    (served (asked t ps c) (asks t ps k c) (serve t (asked t ps c) true free (k + 1) cs) (serve t (asked t ps c) true true (k + 1) cs))
    (serve t ps some free (k + 1) cs)

abbrev pub storage_walk : Translation → Half → Served
storage_walk t s = serve t s.links false false 0 s.port.storage

abbrev pub receive_answer : Translation → Half → Result (Option ChunkDetails) ReceiveError
receive_answer t s = by (expired_walk t s).chunk (storage_walk t (expired_walk t s).half).answer (λ x. Ok (Some x))

abbrev pub receive_after : Translation → Half → Half
receive_after t s = by (expired_walk t s).chunk (with_links (expired_walk t s).half (storage_walk t (expired_walk t s).half).links) (λ x. (expired_walk t s).half)

-- RELEASE

-- the connection that a chunk came over: its key has one, and that is with its origin
abbrev pub over : Half → ChunkDetails → Option Stored
over s x = by (stored_at s x.connection_key) None (λ c. cond (same_port c.peer x.origin) (Some c) None)

abbrev pub release_fault : Half → ChunkDetails → Option ZeroCopyReleaseError
release_fault s x = by (over s x) (Some releasing.NotBorrowed) (λ c. release_faults s.links c.place x.offset)

abbrev pub release_after : Half → ChunkDetails → Half
release_after s x = by (over s x) s (λ c. with_links s (given_back s.links c.place x.offset))

-- CLOSING

abbrev pub ends_detached : Places → List (Option Stored) → Places
ends_detached ps [] = ps
ends_detached ps (None ∷ cs) = ends_detached ps cs
ends_detached ps (Some c ∷ cs) = ends_detached (detached Receiver ps c.place) cs

abbrev pub cleared : Sub → Sub
cleared s = record { id = s.id; settings = s.settings; slots = replicate (length s.slots) None; storage = replicate (length s.storage) None; expired = []; cycle = 0; seen = None }

abbrev pub closed : Half → Half
closed s = record { port = cleared s.port; links = ends_detached s.links s.port.storage }
