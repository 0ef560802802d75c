-- Composition: the result puts out what the second transducer makes of what the first puts out.
use Rattle.std.specs.Prelude.{ℕ, ◌+◌, ◌*◌, ◌/◌, ◌%◌}
use Rattle.transducers.specs.Transducer.{Shape, puts}
use Rattle.transducers.specs.Table.{Table, shape}
use Rattle.transducers.specs.Run.{walk, outputs}
use Rattle.transducers.specs.Tabulate.{table}

-- state q of A with state r of R is q * (the states of R) + r
abbrev pub product : Shape → Shape → Shape
product A R =
    record {
      count = A.count * R.count;
      next = λ s a. A.next (s / R.count) a * R.count + walk R (s % R.count) (A.output (s / R.count) a);
      output = λ s a. outputs R (s % R.count) (A.output (s / R.count) a);
      final = λ s. puts R (s % R.count) (A.final (s / R.count));
    }

-- t, then u
abbrev pub compose : ℕ → Table → Table → Table
compose k t u = table k (product (shape t) (shape u))
