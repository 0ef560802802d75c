-- An entry's place in the slice: two entries stand at two places, so reading one after another was written gives what it held.
use Prim.Native.Nat.{ℕ, zero, suc, ◌+◌, ◌*◌, ◌≤◌, ◌<◌}
use native.Mathlib.Omega.{arith}
use native.Mathlib.Nat.{mul-le-mul_right, suc-mul}
use native.Mathlib.Decide.{dec_le}
use mathlib.Core.Path.{◌≡◌, ap}
use mathlib.Core.List.{List}
use lib.ListN.{length, get_or, set, length-set}
use lib.Seq.{get_or-set_same, get_or-set_other}
use Rattle.workspace.specs.declared.Grid.{Grid}
use Rattle.workspace.specs.Cells.{ix, at, Sized, In, Entry, Got, Put}

product : (a n d e : ℕ) → a < n → e < d → a * d + e < n * d
product a n d e ha he = omega (arith, mul-le-mul_right d ha, suc-mul a d)

apart : (a b d e f : ℕ) → e < d → f < d → a * d + e ≡ b * d + f → a ≡ b
apart a b d e f he hf same = go (dec_le (suc a) b) (dec_le (suc b) a)
  where
    go : Dec (a < b) → Dec (b < a) → a ≡ b
    go (yes h) w = absurd (omega (arith, product a b d e h he))
    go (no n) (yes h) = absurd (omega (arith, product b a d f h hf))
    go (no n) (no m) = omega arith

module _ (g : Grid) where
  pub ix-below : (r c e : ℕ) → In g r c e → ix g r c e < g.rows * (g.tags + 1) * g.depth
  unfolding ix
  ix-below r c e h =
      product (r * (g.tags + 1) + c) (g.rows * (g.tags + 1)) g.depth e (product r g.rows (g.tags + 1) c h.row h.cell) h.entry

  -- the sums on the way to an entry's place are no greater
  pub ix_parts : (r c e : ℕ) → In g r c e
      → (r * (g.tags + 1) + c ≤ ix g r c e) × ((r * (g.tags + 1) + c) * g.depth ≤ ix g r c e) × (g.tags + 1 ≤ g.rows * (g.tags + 1) * g.depth)
  unfolding ix
  ix_parts r c e h =
      let deep : 1 ≤ g.depth = omega (arith, h.entry) in
      let cells : g.tags + 1 ≤ g.rows * (g.tags + 1) = times g.rows (g.tags + 1) (omega (arith, h.row)) in (
        omega (arith, scaled (r * (g.tags + 1) + c) g.depth deep),
        omega arith,
        omega (arith, cells, scaled (g.rows * (g.tags + 1)) g.depth deep),
      )
    where
      times : (n a : ℕ) → 1 ≤ n → a ≤ n * a
      times zero a h = absurd (omega arith)
      times (suc n) a h = omega (arith, suc-mul n a)

      scaled : (a d : ℕ) → 1 ≤ d → a ≤ a * d
      scaled zero d h = omega arith
      scaled (suc a) d h = omega (arith, suc-mul a d, scaled a d h)

  -- two entries stand at one place only if they are one
  pub ix-apart : (r c e r' c' e' : ℕ) → c < g.tags + 1 → e < g.depth → c' < g.tags + 1 → e' < g.depth
      → ix g r c e ≡ ix g r' c' e' → Entry r' c' e' r c e
  unfolding ix
  ix-apart r c e r' c' e' hc he hc' he' same =
      let rows = apart (r * (g.tags + 1) + c) (r' * (g.tags + 1) + c') g.depth e e' he he' same in
      let cells = apart r r' (g.tags + 1) c c' hc hc' rows in
      let cell : c ≡ c' = omega (arith, rows, ap (λ (i : ℕ). i * (g.tags + 1)) cells) in
      (cells, cell, omega (arith, same, ap (λ (i : ℕ). i * g.depth) rows))

  module _ (W : List ℕ) (sized : Sized g W) (r c e : ℕ) (h : In g r c e) where
    pub ix-length : ix g r c e < length W
    ix-length = omega (arith, ix-below r c e h, sized.room)

    pub got_at : (v : ℕ) → v ≡ get_or W (ix g r c e) 0 → v < 65536 → Got g W r c e v
    unfolding at
    got_at v is small = record { is = is; small = small }

    pub put-at : (i v : ℕ) → i ≡ ix g r c e → Put g W (set W i v) r c e v
    unfolding at
    put-at i v is =
        rw is
        (record {
          kept =
              record {
                long = length-set W (ix g r c e) v;
                same = λ r' c' e' hc he other.
                    get_or-set_other W (ix g r c e) (ix g r' c' e') v 0 (λ same. other (ix-apart r' c' e' r c e hc he h.cell h.entry same));
              };
          here = get_or-set_same W (ix g r c e) v 0 ix-length;
        })
