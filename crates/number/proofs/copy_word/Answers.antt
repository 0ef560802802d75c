use Rattle.number.proofs.Rows.{copied}
use Rattle.number.proofs.copy_word.Goals as goal

pub returns : goal.returns
returns c = let a = c.args in
    copied a.g _ _ a.r a.c a.s a.r2 c.requires.inner c.requires.r2_lt_r c.clear.ensures _ c.append_word.ensures
