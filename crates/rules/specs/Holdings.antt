-- What the links of a bank hold for their senders, and who cannot change it.
use Rattle.std.specs.Prelude.{◌≡◌, ℕ, Bool, cond, List, Some, None, Option}
use Rattle.elementary.specs.declared.port_id.PortId.{PortId}
use Rattle.elementary.specs.declared.chunk_details.ChunkDetails.{ChunkDetails}
use Rattle.elementary.specs.declared.link.LinkDetails.{LinkDetails}
use Rattle.elementary.specs.declared.port_list.PublisherDetails.{PublisherDetails}
use Rattle.elementary.specs.declared.error.UpdateError.{UpdateError}
use Rattle.rules.specs.Pools.{by}
use Rattle.rules.specs.Links.{Link, attached, listed, times}
use Rattle.rules.specs.Bank.{Places, at, Turned, SafeBank}
use Rattle.rules.specs.Subscriber.{Half, Translation, receive_after, release_after, Updates, closed}

-- the details of a link whose sender end is attached, and how often it holds an offset
abbrev pub owned : Option Link → Option LinkDetails
owned x = by x None (λ l. cond (attached l.sender_end) (Some l.details) None)

abbrev pub holding : Option Link → ℕ → ℕ
holding x o = by x 0 (λ l. cond (attached l.sender_end) (times (listed l) o) 0)

pub record Keeps (x y : Option Link) : Type 0 where
  pub owner : owned y ≡ owned x
  pub holds : (o : ℕ) → holding y o ≡ holding x o

-- every sender has the links that it had, and they hold what they held
pub record HeldSame (ps qs : Places) : Type 0 where
  pub keeps : (i : ℕ) → Keeps (at ps i) (at qs i)

-- the links hold what they held, and a bank that was safe still is
pub record Stirred (ps qs : Places) : Type 0 where
  pub same : HeldSame ps qs
  pub safe : SafeBank ps → SafeBank qs

-- how links before and after stand to one another, whatever a subscriber calls and whatever a turn moves
pub record BySubscribers (R : Places → Places → Type 0) : Type 0 where
  pub turning : (ps qs : Places) → Turned ps qs → R ps qs
  pub receiving : (t : Translation) (s : Half) → R s.links (receive_after t s).links
  pub releasing : (s : Half) (x : ChunkDetails) → R s.links (release_after s x).links
  pub updating : (known : PortId → Bool) (s : Half) (n : ℕ) (es : List PublisherDetails) (r : Option UpdateError) (t : Half) → Updates known s n es r t → R s.links t.links
  pub closing : (s : Half) → R s.links (closed s).links

-- no subscriber takes anything away from a publisher
abbrev pub NothingTakenAway : Type 0
NothingTakenAway = BySubscribers HeldSame

-- and a bank that was safe still is
abbrev pub OnlyStirred : Type 0
OnlyStirred = BySubscribers Stirred
