-- A publisher's books: how the counts of its chunks stand to who holds them.
use Rattle.std.specs.Prelude.{◌≡◌, ℕ, ◌+◌, ◌<◌, ◌≤◌, Bool, true, false, cond, ◌&&◌, List, [], ◌∷◌, length, Some, Ok, sum_by, Option, Result, nat_lt, slice_index}
use Rattle.container.specs.Queue.{without}
use Rattle.elementary.specs.Ids.{same_port, same_chunk}
use Rattle.elementary.specs.declared.port_id.PortId.{PortId}
use Rattle.elementary.specs.declared.pointer_offset.PointerOffset.{PointerOffset}
use Rattle.elementary.specs.declared.error.LoanError.{LoanError}
use Rattle.elementary.specs.declared.error.CloseError.{CloseError}
use Rattle.elementary.specs.declared.error.SendError.{SendError}
use Rattle.elementary.specs.declared.port_list.SubscriberDetails.{SubscriberDetails}
use Rattle.rules.specs.Memory.{Sound, segment_at, taken_at}
use Rattle.rules.specs.Counts.{Chunks, counts_of, count_at}
use Rattle.rules.specs.Pools.{by}
use Rattle.rules.specs.Links.{Link, attached, listed, times}
use Rattle.rules.specs.Bank.{Places, at, sends, SoundBank, SafeBank}
use Rattle.rules.specs.Publisher.{Connection, Pub, Side, slot_at, hold, let_go, taken_up, reclaimed_all, Loans, Removes, begun, tag_slot, Sweeps, Closes, fill_after, return_after, Updates, Handler, Sends}

-- a link of a publisher bears its id, and its sender end is attached
abbrev pub mine : PortId → Link → Bool
mine id l = attached l.sender_end && same_port l.details.sender_port_id id

-- how often a place holds a chunk for a publisher, and how often all its links do
abbrev pub held_here : PortId → ℕ → Option Link → ℕ
held_here id o x = by x 0 (λ l. cond (mine id l) (times (listed l) o) 0)

abbrev pub held_by : PortId → Places → ℕ → ℕ
held_by id ps o = sum_by (held_here id o) ps

-- how many hold a chunk, as the publisher counts them
abbrev pub count_of : Pub → ℕ → ℕ
count_of p o = count_at p.chunks.mem.segments p.chunks.counts o

-- the counts have a place for every bucket that the memory may come to have, and are 0 where there is none yet
pub record Ledger (c : Chunks) : Type 0 where
  pub segments : length c.mem.segments ≤ 4
  pub buckets : (s : ℕ) → length (segment_at c.mem.segments s).taken ≤ 256
  pub room : (s : ℕ) → s < 4 → 256 ≤ length (counts_of c.counts s)
  pub unused : (s b : ℕ) → length (segment_at c.mem.segments s).taken ≤ b → slice_index (counts_of c.counts s) b ≡ 0

-- the books in the middle of a call: the loans that count, and the chunks that the call has in hand
pub record Books (loans hand : List PointerOffset) (p : Pub) (ps : Places) : Type 0 where
  pub ledger : Ledger p.chunks
  -- a chunk's count is its loans, its history entries, the links that hold it, and what is in hand
  pub balance : (o : ℕ) → count_of p o ≡ times loans o + (times p.history o + (held_by p.id ps o + times hand o))
  -- its bucket is taken exactly where that is not zero
  pub free : (o : ℕ) → taken_at p.chunks.mem.segments o ≡ nat_lt 0 (count_of p o)
  -- a chunk on loan has no other holder
  pub alone : (o : ℕ) → 0 < times loans o → count_of p o ≡ 1
  pub once : (o : ℕ) → times p.history o ≤ 1

-- the three moves of which every call is made keep the books
pub record MovesKeepTheBooks : Type 0 where
  -- one holder more
  pub holding : (loans hand : List PointerOffset) (p : Pub) (ps : Places) (o : PointerOffset) → Books loans hand p ps
      → 0 < count_of p o.value → count_of p o.value < 10 → times loans o.value ≡ 0 → Books loans (o ∷ hand) (hold p o) ps
  -- one holder less: the last one frees the bucket
  pub letting_go : (loans hand : List PointerOffset) (p : Pub) (ps : Places) (o : PointerOffset) → Books loans (o ∷ hand) p ps → Books loans hand (let_go p o) ps
  -- a holder that becomes another kind of holder
  pub moving : (loans hand hand' : List PointerOffset) (p : Pub) (ps qs : Places)
      → ((o : ℕ) → held_by p.id qs o + times hand' o ≡ held_by p.id ps o + times hand o) → Books loans hand p ps → Books loans hand' p qs

-- CALLS

-- whether a place has a link of the publisher
abbrev pub owns : PortId → Option Link → Bool
owns id x = by x false (mine id)

-- each slot's connection has a link of the publisher at its place, no two have the same, and every link of the publisher is some slot's
pub record Wired (p : Pub) (ps : Places) : Type 0 where
  pub own : (i : ℕ) (c : Connection) → slot_at p i ≡ Some c → owns p.id (at ps c.place) ≡ true
  pub apart : (i j : ℕ) (c d : Connection) → slot_at p i ≡ Some c → slot_at p j ≡ Some d → c.place ≡ d.place → i ≡ j
  pub cover : (j : ℕ) → owns p.id (at ps j) ≡ true → (i : ℕ) × ((c : Connection) × (slot_at p i ≡ Some c) × (c.place ≡ j))
  pub few : length p.slots ≤ 8

-- a publisher in order, beside the bank
pub record InOrder (loans hand : List PointerOffset) (g : Side) : Type 0 where
  pub books : Books loans hand g.port g.links
  pub wired : Wired g.port g.links

abbrev pub beside : Side → Pub → Side
beside g p = record { port = p; links = g.links }

-- these calls keep a publisher in order, whatever else is in hand
pub record CallsKeepOrder : Type 0 where
  pub reclaiming : (loans hand : List PointerOffset) (g : Side) → InOrder loans hand g → InOrder loans hand (reclaimed_all g)
  pub removing : (loans hand : List PointerOffset) (g : Side) (i : ℕ) (h : Side) → Removes g i h → InOrder loans hand g → InOrder loans hand h
  -- a link takes a chunk that is in the history or in hand: it is one holder more, no count passes 10, and what the link evicts has one less
  pub posting : (loans hand : List PointerOffset) (g : Side) (s : ℕ) (c : Connection) (o : PointerOffset) (e : Option PointerOffset) → slot_at g.port s ≡ Some c
      → sends g.links c.place o ≡ Ok e → SoundBank g.links → 0 < times g.port.history o.value + times hand o.value → times hand o.value ≤ 1
      → InOrder loans hand g → InOrder loans hand (taken_up g c.place o (Ok e)) × (count_of g.port o.value < 10)
  -- a cycle begins, a slot is tagged, and the slots that were not are emptied
  pub beginning : (loans hand : List PointerOffset) (g : Side) (n : ℕ) → InOrder loans hand g → InOrder loans hand (beside g (begun g.port n))
  pub tagging : (loans hand : List PointerOffset) (g : Side) (i : ℕ) → InOrder loans hand g → InOrder loans hand (beside g (tag_slot g.port i))
  pub sweeping : (loans hand : List PointerOffset) (i n : ℕ) (g h : Side) → Sweeps i n g h → InOrder loans hand g → InOrder loans hand h
  pub loaning : (hand : List PointerOffset) (limit : ℕ) (g : Side) (asked align : ℕ) (r : Result PointerOffset LoanError) (h : Side)
      → Loans g asked align r h → Sound limit h.port.chunks.mem → InOrder g.port.loans hand g → InOrder h.port.loans hand h
  pub filling : (hand : List PointerOffset) (g : Side) (o : PointerOffset) (source : List ℕ) → InOrder g.port.loans hand g
      → InOrder (fill_after g.port o source).loans hand (beside g (fill_after g.port o source))
  pub returning : (hand : List PointerOffset) (g : Side) (o : PointerOffset) → InOrder g.port.loans hand g
      → InOrder (return_after g.port o).loans hand (beside g (return_after g.port o))
  pub closing : (hand : List PointerOffset) (g : Side) (r : Option CloseError) (h : Side) → Closes g r h → InOrder g.port.loans hand g → InOrder h.port.loans hand h

-- WHOLE SENDS

-- what a call of one publisher leaves: this one in order with nothing in hand, a safe bank, and every other publisher in order that was
pub record LeavesOrder (g h : Side) : Type 0 where
  pub order : InOrder h.port.loans [] h
  pub bank : SafeBank h.links
  pub others : (p : Pub) → same_port p.id g.port.id ≡ false → InOrder p.loans [] (record { port = p; links = g.links }) → InOrder p.loans [] (record { port = p; links = h.links })

-- taking over a list, with the ends that it makes, the history that new links get and the links that it ends; and a whole send, whatever its
-- handler answers and whatever its turns move
pub record SendsKeepOrder : Type 0 where
  pub updating : (g : Side) (n : ℕ) (es : List SubscriberDetails) (f : Option SendError) (h : Side) → Updates g n es f h
      → SafeBank g.links → InOrder g.port.loans [] g → LeavesOrder g h
  pub sending : (f : Handler) (g : Side) (o : PointerOffset) (n : ℕ) (es : List SubscriberDetails) (r : Result ℕ SendError) (h : Side) → Sends f g o n es r h
      → SafeBank g.links → InOrder g.port.loans [] g → LeavesOrder g h
  -- the loan ends, whatever is answered, and no byte changes
  pub ending : (f : Handler) (g : Side) (o : PointerOffset) (n : ℕ) (es : List SubscriberDetails) (r : Result ℕ SendError) (h : Side) → Sends f g o n es r h
      → SafeBank g.links → InOrder g.port.loans [] g → (h.port.loans ≡ without same_chunk g.port.loans o) × (h.port.bytes ≡ g.port.bytes)
