-- Words in bytes: the command with a tag, for each tag.
use Prim.Native.Nat.{ℕ, suc, ◌*◌, ◌<◌, ◌≤◌}
use native.Mathlib.Decide.{ℕ_discrete, dec_lt}
use native.Mathlib.Omega.{arith}
use mathlib.Core.Path.{◌≡◌, refl, ap, ◌∙◌}
use mathlib.Core.List.{List, [], ◌∷◌, ◌++◌, append_assoc}
use borrow.Author.Tests.{eq-eqb, ne_eqb, lt-ltb, le-ltb}
use lib.ListN.{length, drop, get_or}
use lib.Seq.{drop-append_seam}
use Rattle.words.specs.Word.{Below}
use Rattle.tables.specs.Bytes.{tagged, high, low, number}
use Rattle.tables.specs.Decode.{word}

-- the bytes begin with these
abbrev pub Begins : List ℕ → List ℕ → Type 0
Begins p bs = bs ≡ p ++ drop (length p) bs

pub begins_join : (p q bs : List ℕ) → Begins p bs → Begins q (drop (length p) bs) → bs ≡ (p ++ q) ++ drop (length q) (drop (length p) bs)
begins_join p q bs e f = rw append_assoc (e ∙ ap (λ (z : List ℕ). p ++ z) f)

-- what stands after p, given all of the bytes
pub begins_of : (p bs rest : List ℕ) → bs ≡ p ++ rest → drop (length p) bs ≡ rest
begins_of p bs rest e = rw e (drop-append_seam p rest)

pub begins_append : (p q bs : List ℕ) → Begins p bs → Begins q (drop (length p) bs) → Begins (p ++ q) bs
begins_append p q bs e f =
    let whole = begins_join p q bs e f in
    let rest = begins_of (p ++ q) bs (drop (length q) (drop (length p) bs)) whole in
    rw rest whole

pub below_of : (k : ℕ) (l : List ℕ) → ((i : ℕ) → get_or l i 0 < k) → Below k l
below_of k [] f = tt
below_of k (x ∷ l) f = (f 0, below_of k l (λ i. f (suc i)))

-- the cases of `word`
module _ (c k x a : ℕ) (bs : List ℕ) where
  pub word_more : x ≡ c → a < k → word c k (x ∷ a ∷ bs) ≡ a ∷ word c k bs
  word_more e h = cc (eq-eqb x c e, lt-ltb a k h)

  pub word-other : (x ≡ c → ⊥) → word c k (x ∷ a ∷ bs) ≡ []
  word-other n = cc (ne_eqb x c n)

  pub word-high : x ≡ c → k ≤ a → word c k (x ∷ a ∷ bs) ≡ []
  word-high e h = cc (eq-eqb x c e, le-ltb a k h)

pub data Case (c k x a : ℕ) (bs : List ℕ) : Type 0 where
  more : x ≡ c → a < k → word c k (x ∷ a ∷ bs) ≡ a ∷ word c k bs → Case c k x a bs
  stop : word c k (x ∷ a ∷ bs) ≡ [] → Case c k x a bs

pub word_case : (c k x a : ℕ) (bs : List ℕ) → Case c k x a bs
word_case c k x a bs = go (ℕ_discrete x c) (dec_lt a k)
  where
    go : Dec (x ≡ c) → Dec (a < k) → Case c k x a bs
    go (no n) d = stop (word-other c k x a bs n)
    go (yes e) (no n) = stop (word-high c k x a bs e (omega arith))
    go (yes e) (yes h) = more e h (word_more c k x a bs e h)

pub word_begins : (c k : ℕ) (bs : List ℕ) → Begins (tagged c (word c k bs)) bs
word_begins c k [] = refl
word_begins c k (x ∷ []) = refl
word_begins c k (x ∷ a ∷ bs) = go (word_case c k x a bs) (word_begins c k bs)
  where
    go : Case c k x a bs → Begins (tagged c (word c k bs)) bs → Begins (tagged c (word c k (x ∷ a ∷ bs))) (x ∷ a ∷ bs)
    go (stop e) r = rw e refl
    go (more e h w) r = rw w (cc (e, r))

pub word_below : (c k : ℕ) (bs : List ℕ) → Below k (word c k bs)
word_below c k [] = tt
word_below c k (x ∷ []) = tt
word_below c k (x ∷ a ∷ bs) = go (word_case c k x a bs) (word_below c k bs)
  where
    go : Case c k x a bs → Below k (word c k bs) → Below k (word c k (x ∷ a ∷ bs))
    go (stop e) r = rw e tt
    go (more e h w) r = rw w (h, r)

-- the bytes do not begin with the command
abbrev pub Stops : ℕ → List ℕ → Type 0
Stops c [] = Unit {0}
Stops c (x ∷ bs) = x ≡ c → ⊥

pub word-stops : (c k : ℕ) (bs : List ℕ) → Stops c bs → word c k bs ≡ []
word-stops c k [] s = refl
word-stops c k (x ∷ []) s = refl
word-stops c k (x ∷ a ∷ bs) s = word-other c k x a bs s

pub word-tagged : (c k : ℕ) (w bs : List ℕ) → Below k w → Stops c bs → word c k (tagged c w ++ bs) ≡ w
word-tagged c k [] bs b s = word-stops c k bs s
word-tagged c k (a ∷ w) bs b s = cc (word_more c k c a (tagged c w ++ bs) refl b.0, word-tagged c k w bs b.1 s)

pub length-tagged : (c : ℕ) (w : List ℕ) → length (tagged c w) ≡ 2 * length w
length-tagged c [] = refl
length-tagged c (a ∷ w) = omega (arith, length-tagged c w)

-- two bytes and their number
pub number_bytes : (n : ℕ) → number (high n) (low n) ≡ n
number_bytes n = omega arith

pub high-number : (h l : ℕ) → l < 0x100 → high (number h l) ≡ h
high-number h l b = omega arith

pub low-number : (h l : ℕ) → l < 0x100 → low (number h l) ≡ l
low-number h l b = omega arith
