-- A word cut into pieces: "The slice is cut after each end tag; each piece is rewritten by itself and the pieces are joined" (document 02, W1).
use Rattle.std.specs.Prelude.{ℕ, true, false, List, [], ◌∷◌, ◌++◌, eqb}

-- the tag in front of the first piece
abbrev pub onto : ℕ → List (List ℕ) → List (List ℕ)
onto a [] = (a ∷ []) ∷ []
onto a (p ∷ ps) = (a ∷ p) ∷ ps

-- cut after each e; the last piece may be empty
abbrev pub pieces : ℕ → List ℕ → List (List ℕ)
pieces e [] = [] ∷ []
pieces e (a ∷ w) = elim (eqb a e) [ true ↦ (a ∷ []) ∷ pieces e w | false ↦ onto a (pieces e w) ]

-- what f makes of each piece, joined
abbrev pub each : (List ℕ → List ℕ) → List (List ℕ) → List ℕ
each f [] = []
each f (p ∷ ps) = f p ++ each f ps

abbrev pub piecewise : ℕ → (List ℕ → List ℕ) → List ℕ → List ℕ
piecewise e f w = each f (pieces e w)
