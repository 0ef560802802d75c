-- What a valid table puts out: a word as long as the sentence, of its tags.
use Prim.Native.Nat.{ℕ}
use native.Mathlib.Omega.{arith}
use mathlib.Core.Path.{◌≡◌, ap}
use mathlib.Core.List.{List}
use lib.ListN.{length}
use Rattle.words.specs.Word.{Below}
use Rattle.limits.specs.declared.Limits.{Limits}
use Rattle.transducers.specs.Transducer.{puts}
use Rattle.transducers.specs.Table.{Table, shape}
use Rattle.transducers.specs.Canonical.{Sound}
use Rattle.transducers.proofs.Run.{puts-length, puts-below}
use Rattle.tables.specs.Valid.{ValidTable}

module _ {lim : Limits} (k : ℕ) (t : Table) (v : ValidTable lim k t) where
  pub sound : Sound k (shape t)
  sound =
      record {
        some = v.states_least;
        empty = v.start;
        next_below = v.next_below;
        output_below = v.output_below;
        final_below = v.final_below;
        balanced = v.balanced;
      }

  pub run_length : (w : List ℕ) → Below k w → length (puts (shape t) 0 w) ≡ length w
  run_length w b = omega (arith, puts-length k (shape t) sound 0 v.states_least w b, ap length v.start)

  pub run-below : (w : List ℕ) → Below k w → Below k (puts (shape t) 0 w)
  run-below w b = puts-below k (shape t) sound 0 v.states_least w b
