use native.Mathlib.Omega.{arith}
use lib.ListN.{length, set, length-set}
use Rattle.loader.proofs.Loads.{measured, load_short, some-room, source, load_whole}
use Rattle.loader.proofs.load_within.Goals as goal

pub returns-then-not-fits : goal.returns-then-not-fits
returns-then-not-fits c = let a = c.args in
    let d = c.load in
    let m = measured a.lim a.table.now d.new.index a.size.tags a.size.states a.loaded.now d.result c.fits.result c.requires.0 c.type_inv.table d.ensures c.if-not-load.false c.fits.ensures in
    load_short m c.if-not-fits.true

pub bounds-loaded-0 : goal.bounds-loaded-0
bounds-loaded-0 c = let a = c.args in
    let d = c.load in
    let m = measured a.lim a.table.now d.new.index a.size.tags a.size.states a.loaded.now d.result c.fits.result c.requires.0 c.type_inv.table d.ensures c.if-not-load.false c.fits.ensures in
    some-room m c.if-not-fits.false

pub write_rows-requires : goal.write_rows-requires
write_rows-requires c = let a = c.args in
    let d = c.load in
    let m = measured a.lim a.table.now d.new.index a.size.tags a.size.states a.loaded.now d.result c.fits.result c.requires.0 c.type_inv.table d.ensures c.if-not-load.false c.fits.ensures in
    source m c.if-not-fits.false _ (simp length-set) (omega (arith, c.requires.1))

pub returns : goal.returns
returns c = let a = c.args in
    let d = c.load in
    let m = measured a.lim a.table.now d.new.index a.size.tags a.size.states a.loaded.now d.result c.fits.result c.requires.0 c.type_inv.table d.ensures c.if-not-load.false c.fits.ensures in
    let x = source m c.if-not-fits.false (length (set a.loaded.now 0 a.size.tags)) (simp length-set) (omega (arith, c.requires.1)) in
    load_whole m c.if-not-fits.false c.write_rows.new.loaded c.first_resting-rested.result c.write_rows.result c.first_resting-rested.ensures (c.write_rows.ensures x)
