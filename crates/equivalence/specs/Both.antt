-- The two tables that are compared as one value: what is asked of them, and the transducers that they are.
use Rattle.transducers.specs.Transducer.{Shape}
use Rattle.workspace.specs.Holds.{standing}
use Rattle.equivalence.specs.Tables.{Tables, given}
use Rattle.equivalence.specs.declared.Both.{Both}

abbrev pub TablesOf : Both → Type 0
TablesOf b = Tables b.lim b.table.now b.index.now b.grid b.work.now b.rows b.states

abbrev pub first : Both → Shape
first b = given b.lim b.table.now

abbrev pub second : Both → Shape
second b = standing b.grid b.work.now 0 b.rows
