-- The transducer that begins afresh after an end tag: on e it puts out what it still holds too, and goes to its start, state 0.
use Rattle.std.specs.Prelude.{ℕ, true, false, ◌++◌, eqb}
use Rattle.transducers.specs.Transducer.{Shape}

abbrev pub ended : ℕ → Shape → Shape
ended e S =
    record {
      count = S.count;
      next = λ q a. elim (eqb a e) [ true ↦ 0 | false ↦ S.next q a ];
      output = λ q a. elim (eqb a e) [ true ↦ S.output q a ++ S.final (S.next q a) | false ↦ S.output q a ];
      final = S.final;
    }
