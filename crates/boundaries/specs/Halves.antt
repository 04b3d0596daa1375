-- A memory that keeps no segment as a value: two segments of eight buckets of 8 bytes, all taken.
use Rattle.std.specs.Prelude.{ℕ, zero, suc, ◌<◌, true, false, [], ◌∷◌, replicate}
use Rattle.std.proofs.Common.{rules, arith}
use Rattle.rules.specs.Memory.{Mem, Segment, Sound, Shaped, segment_at}

abbrev pub half : ℕ → Segment
half at = record { start = at; size = 8; taken = replicate 8 true }

abbrev pub halves : Mem
halves = record { segments = half 0 ∷ half 64 ∷ []; largest = 8; capacity = 128; grows = λ _. false }

shaped : (s : ℕ) → s < 2 → Shaped halves (segment_at halves.segments s)
shaped zero lt = search (rules, arith)
shaped (suc zero) lt = search (rules, arith)
shaped (suc (suc s)) lt = absurd (omega (arith, lt))

pub sound : Sound 2 halves
sound = record {
  limits = search (rules, arith);
  some = search (rules, arith);
  few = search (rules, arith);
  shaped = shaped;
  apart = λ s t lt there. search (rules, arith);
}
