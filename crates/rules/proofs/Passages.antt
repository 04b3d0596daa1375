-- What every step of a publisher's call leaves as it was, beside its books.
use Rattle.std.proofs.Common.{rules, arith, false, Bool, ◌≡◌, ℕ, ◌+◌, ◌<◌, ◌≤◌, List, [], ◌∷◌, ◌++◌, length, Some, None, Option, sym, refl, ap, ◌∙◌}
use Rattle.std.specs.Option.{option_to_list}
use Rattle.std.proofs.lemmas.Bool.Decides.{nat_tests}
use Rattle.std.proofs.lemmas.List.{length-set}
use Rattle.elementary.specs.Ids.{same_port, distance, segment}
use Rattle.elementary.specs.declared.port_id.PortId.{PortId}
use Rattle.elementary.specs.declared.pointer_offset.PointerOffset.{PointerOffset}
use Rattle.elementary.specs.declared.link.LinkDetails.{LinkDetails}
use Rattle.rules.specs.Publisher.{with_chunks, Pub, Side, hold, let_go, let_go_if, let_go_all}
use Rattle.rules.specs.Counts.{borrowed, Chunks, released}
use Rattle.rules.specs.Memory.{Mem, IsMemory, Shaped, segment_at, home, bucket, is_chunk, marked, remarked, with_segments, freed, end_of}
use Rattle.rules.specs.Bytes.{place, room}
use Rattle.rules.specs.Bank.{Places, at, SafeBank}
use Rattle.rules.specs.Books.{count_of, Books}
use Rattle.rules.proofs.Marks.{mark_keeps, mark_size, mark_count}
use Rattle.rules.proofs.Keep.{letting_go, hold_count, let_go_count}
use Rattle.rules.proofs.Views.{own_details, Unmoved, unmoved_refl, unmoved_trans}

-- THE SHAPE OF A MEMORY: all but which buckets are taken

pub record SameShape (m n : Mem) : Type 0 where
  pub number : length n.segments ≡ length m.segments
  pub start : (s : ℕ) → (segment_at n.segments s).start ≡ (segment_at m.segments s).start
  pub size : (s : ℕ) → (segment_at n.segments s).size ≡ (segment_at m.segments s).size
  pub count : (s : ℕ) → length (segment_at n.segments s).taken ≡ length (segment_at m.segments s).taken
  pub largest : n.largest ≡ m.largest
  pub capacity : n.capacity ≡ m.capacity

pub shape_refl : (m : Mem) → SameShape m m
shape_refl m = record { number = refl; start = λ s. refl; size = λ s. refl; count = λ s. refl; largest = refl; capacity = refl }

pub shape_trans : {a b c : Mem} → SameShape a b → SameShape b c → SameShape a c
shape_trans x y = search rules

pub shape_marked : (m : Mem) (o : ℕ) (t : Bool) → SameShape m (with_segments m (marked m.segments o t))
shape_marked m o t = record {
  number = length-set m.segments (segment o) (remarked (home m.segments o) (bucket m.segments o) t);
  start = λ s. mark_keeps (λ g. g.start) (λ g b u. refl) m.segments o t s;
  size = λ s. mark_size m.segments o t s;
  count = λ s. mark_count m.segments o t s;
  largest = refl;
  capacity = refl;
}

shape_freed : (m : Mem) (o : ℕ) → SameShape m (freed m o)
shape_freed m o = search (rules, shape_marked, shape_refl)

pub shape_released : (c : Chunks) (o : ℕ) → SameShape c.mem (released c o).mem
shape_released c o = search (rules, shape_freed, shape_refl)

-- a memory by its shape
end_same : (m n : Mem) (s : ℕ) → SameShape m n → end_of (segment_at n.segments s) ≡ end_of (segment_at m.segments s)
end_same m n s x = search rules

shaped_same : (m n : Mem) (s : ℕ) → SameShape m n → Shaped m (segment_at m.segments s) → Shaped n (segment_at n.segments s)
shaped_same m n s x h = search rules

pub shape_memory : (m n : Mem) → SameShape m n → IsMemory m → IsMemory n
shape_memory m n x (limit, s) = (
  limit,
  record {
    limits = s.limits;
    some = omega (arith, x.number, s.some);
    few = omega (arith, x.number, s.few);
    shaped = λ k lt. shaped_same m n k x (s.shaped k (omega (arith, x.number, lt)));
    apart = λ k l lt le. grind (arith, end_same m n k x, end_same m n l x, x.start k, x.start l, x.number, s.apart k l);
  },
)

-- what an offset names
pub shape_chunk : (m n : Mem) (o : ℕ) → SameShape m n → is_chunk n.segments o ≡ is_chunk m.segments o
shape_chunk m n o x = search rules

pub shape_place : (m n : Mem) (o : ℕ) → SameShape m n → place n o ≡ place m o
shape_place m n o x = ap (λ k. k + distance o) (x.start (segment o))

pub shape_room : (m n : Mem) (o : ℕ) → SameShape m n → room n o ≡ room m o
shape_room m n o x = x.size (segment o)

-- A COURSE: what every step leaves, also where loans and history change

-- a publisher's own links have buffers within its limit, and its own borrow limit
abbrev pub Fits : Pub → Places → Type 0
Fits p ps = (i : ℕ) (d : LinkDetails) → own_details p.id (at ps i) ≡ Some d
    → (d.buffer_size ≤ p.settings.subscriber_max_buffer_size) × (d.max_borrowed_samples ≡ p.settings.subscriber_max_borrowed_samples)

-- and no more in its history than its settings say
abbrev pub Recent : Pub → Type 0
Recent p = length p.history ≤ p.settings.history_size

pub record Course (g h : Side) : Type 0 where
  pub id : h.port.id ≡ g.port.id
  pub settings : h.port.settings ≡ g.port.settings
  pub bytes : h.port.bytes ≡ g.port.bytes
  pub slots : length h.port.slots ≡ length g.port.slots
  pub shape : SameShape g.port.chunks.mem h.port.chunks.mem
  -- what is held after was held before
  pub fewer : (o : ℕ) → 0 < count_of h.port o → 0 < count_of g.port o
  pub bank : SafeBank g.links → SafeBank h.links
  pub fits : Fits g.port g.links → Fits h.port h.links
  pub recent : Recent g.port → Recent h.port
  -- no other publisher sees any of it
  pub others : (a : PortId) → same_port a g.port.id ≡ false → Unmoved a g.links h.links

pub course_trans : {g m h : Side} → Course g m → Course m h → Course g h
course_trans {g} {m} {h} a b = record {
  id = b.id ∙ a.id;
  settings = b.settings ∙ a.settings;
  bytes = b.bytes ∙ a.bytes;
  slots = b.slots ∙ a.slots;
  shape = shape_trans a.shape b.shape;
  fewer = λ o p. a.fewer o (b.fewer o p);
  bank = λ s. b.bank (a.bank s);
  fits = λ f. b.fits (a.fits f);
  recent = λ r. b.recent (a.recent r);
  others = λ x ne. unmoved_trans (a.others x ne) (b.others x (ap (same_port x) a.id ∙ ne));
}

-- as every publisher stays by its settings
pub record Snug (p : Pub) (ps : Places) : Type 0 where
  pub fits : Fits p ps
  pub recent : Recent p
  pub slots : length p.slots ≡ p.settings.max_subscribers

pub snug_course : {g h : Side} → Course g h → Snug g.port g.links → Snug h.port h.links
snug_course c k = record { fits = c.fits k.fits; recent = c.recent k.recent; slots = c.slots ∙ (k.slots ∙ ap (λ t. t.max_subscribers) (sym c.settings)) }

-- A PASSAGE: a course that leaves loans and history

pub record Passage (g h : Side) : Type 0 where
  pub course : Course g h
  pub loans : h.port.loans ≡ g.port.loans
  pub history : h.port.history ≡ g.port.history
  pub closed : h.port.closed ≡ g.port.closed

pub passage_trans : {g m h : Side} → Passage g m → Passage m h → Passage g h
passage_trans a b = search (rules, course_trans)

-- links alone change
pub passage_links : (p : Pub) (ps qs : Places) → (SafeBank ps → SafeBank qs) → (Fits p ps → Fits p qs) → ((a : PortId) → same_port a p.id ≡ false → Unmoved a ps qs)
    → Passage (record { port = p; links = ps }) (record { port = p; links = qs })
passage_links p ps qs bank fits others = search rules

pub passage_refl : (g : Side) → Passage g g
passage_refl g = passage_links g.port g.links g.links (λ s. s) (λ f. f) (λ a ne. unmoved_refl a g.links)

-- another history, other loans, open or closed
pub course_lists : (p : Pub) (ps : Places) (loans history : List PointerOffset) (closed : Bool)
    → (Recent p → length history ≤ p.settings.history_size)
    → Course (record { port = p; links = ps }) (record { port = record { id = p.id; settings = p.settings; chunks = p.chunks; bytes = p.bytes; loans = loans; history = history; slots = p.slots; cycle = p.cycle; seen = p.seen; closed = closed }; links = ps })
course_lists p ps loans history closed short = search rules

-- LETTING GO

pub all_go : (loans hand : List PointerOffset) (ps : Places) (os : List PointerOffset) (p : Pub) → Books loans (os ++ hand) p ps → Books loans hand (let_go_all p os) ps
all_go loans hand ps [] p k = k
all_go loans hand ps (o ∷ os) p k = all_go loans hand ps os (let_go p o) (letting_go loans (os ++ hand) p ps o k)

-- chunks alone change
passage_chunks : (p : Pub) (ps : Places) (c : Chunks) → SameShape p.chunks.mem c.mem → ((o : ℕ) → 0 < count_of (with_chunks p c) o → 0 < count_of p o)
    → Passage (record { port = p; links = ps }) (record { port = with_chunks p c; links = ps })
passage_chunks p ps c shape fewer = search rules

pub passage_let_go : (loans hand : List PointerOffset) (ps : Places) (o : PointerOffset) (p : Pub) → Books loans (o ∷ hand) p ps
    → Passage (record { port = p; links = ps }) (record { port = let_go p o; links = ps })
passage_let_go loans hand ps o p k =
    passage_chunks p ps (released p.chunks o.value) (shape_released p.chunks o.value) (λ x h. omega (arith, let_go_count loans hand p ps o k x, h))

pub passage_all : (loans hand : List PointerOffset) (ps : Places) (os : List PointerOffset) (p : Pub) → Books loans (os ++ hand) p ps
    → Passage (record { port = p; links = ps }) (record { port = let_go_all p os; links = ps })
passage_all loans hand ps [] p k = passage_refl _
passage_all loans hand ps (o ∷ os) p k = passage_trans (passage_let_go loans (os ++ hand) ps o p k) (passage_all loans hand ps os (let_go p o) (letting_go loans (os ++ hand) p ps o k))

pub evict : (loans hand : List PointerOffset) (ps : Places) (e : Option PointerOffset) (p : Pub) → Books loans (option_to_list e ++ hand) p ps → Books loans hand (let_go_if p e) ps
evict loans hand ps None p k = k
evict loans hand ps (Some o) p k = letting_go loans hand p ps o k

pub passage_evict : (loans hand : List PointerOffset) (ps : Places) (e : Option PointerOffset) (p : Pub) → Books loans (option_to_list e ++ hand) p ps
    → Passage (record { port = p; links = ps }) (record { port = let_go_if p e; links = ps })
passage_evict loans hand ps None p k = passage_refl _
passage_evict loans hand ps (Some o) p k = passage_let_go loans hand ps o p k

-- ONE HOLDER MORE

pub passage_hold : (loans hand : List PointerOffset) (ps : Places) (o : PointerOffset) (p : Pub) → Books loans hand p ps → 0 < count_of p o.value → count_of p o.value < 10
    → Passage (record { port = p; links = ps }) (record { port = hold p o; links = ps })
passage_hold loans hand ps o p k some few =
    passage_chunks p ps (borrowed p.chunks o.value) (shape_refl p.chunks.mem) (λ x h. grind (arith, nat_tests, hold_count loans hand p ps o k some few x, some, h))

pub fits_unmoved : (p : Pub) (ps qs : Places) → ((i : ℕ) → own_details p.id (at qs i) ≡ own_details p.id (at ps i)) → Fits p ps → Fits p qs
fits_unmoved p ps qs same f i d e = f i d (sym (same i) ∙ e)

pub snug_unmoved : (p : Pub) (ps qs : Places) → Unmoved p.id ps qs → Snug p ps → Snug p qs
snug_unmoved p ps qs u k = record { fits = fits_unmoved p ps qs (λ i. (u.alike i).details) k.fits; recent = k.recent; slots = k.slots }
