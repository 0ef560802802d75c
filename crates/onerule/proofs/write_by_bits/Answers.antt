use native.Mathlib.Omega.{arith}
use mathlib.Core.Path.{◌≡◌, sym, ap, ◌∙◌}
use lib.ListN.{length, take}
use Rattle.cascades.specs.Value.{kind_of}
use Rattle.minimal.specs.Bits.{alive_states}
use Rattle.onerule.proofs.Words.{bits_within}
use Rattle.onerule.proofs.Formed.{formed_long, formed_room, formed_narrow, formed_bits, formed_ruled}
use Rattle.onerule.proofs.write_by_bits.Goals as goal

pub write_states-requires-clause-serves : goal.write_states-requires-clause-serves
write_states-requires-clause-serves c = let a = c.args in
    let f = c.requires.formed.0 in
    record {
      some = omega (arith, (formed_room a.rule a.sets f a.g a.work.now c.requires.room).place_inside);
      short = omega (arith, formed_long a.rule a.sets f, f.length_short);
      narrow = formed_narrow a.rule a.sets f a.g.tags _ c.requires.tags_le_most_tags.0 c.masks_of-masks.ensures;
    }

pub write_states-requires-clause-within : goal.write_states-requires-clause-within
write_states-requires-clause-within c = let a = c.args in
    bits_within (kind_of a.rule.everywhere) c.masks_of-masks.result (take a.rule.length a.rule.row) a.end
    (omega (arith, (formed_room a.rule a.sets c.requires.formed.0 a.g a.work.now c.requires.room).place_inside))

pub write_states-requires-clause-count_is : goal.write_states-requires-clause-count_is
write_states-requires-clause-count_is c = let a = c.args in
    let f = c.requires.formed.0 in
    let kind = kind_of a.rule.everywhere in
    let count : c.from-count.result ≡ alive_states kind (length (take a.rule.length a.rule.row)) =
    c.from-count.ensures ∙ c.count_alive.ensures ∙ ap (alive_states kind) (sym (formed_long a.rule a.sets f)) in
    (count, omega (arith, count, (formed_bits a.rule a.sets f c.requires.formed.1 a.g.tags _ c.masks_of-masks.ensures).count_is, c.requires.tags_le_most_tags.1))

pub returns : goal.returns
returns c = let a = c.args in
    let f = c.requires.formed.0 in
    let kind = kind_of a.rule.everywhere in
    formed_ruled a.rule a.sets f a.g a.work.now _ a.base c.from-count.result a.end _
    (formed_bits a.rule a.sets f c.requires.formed.1 a.g.tags c.masks_of-masks.result c.masks_of-masks.ensures) c.requires.tags_le_most_tags.2
    (c.from-count.ensures ∙ c.count_alive.ensures ∙ ap (alive_states kind) (sym (formed_long a.rule a.sets f))) c.requires.tags_le_most_tags.1
    c.requires.room c.write_states.ensures
