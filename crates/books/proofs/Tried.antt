-- What a call has done that was tried, by its answer.
use mathlib.Core.Path.{◌≡◌, subst}
use Rattle.std.specs.Prelude.{Result, Ok, Err}
use Rattle.answers.specs.declared.Refusal.{Refusal}
use Rattle.books.specs.declared.Unread.{Unread}
use Rattle.books.specs.declared.Unread.TheVariants.{Refused, Sets}
use Rattle.books.specs.Tried.{Tried}

module _ {A : Type 0} (t : Result A Unread) (P : Result A Refusal → Type 0) (nothing : Type 0) (tried : Tried t P nothing) where
  pub tried_changed : (a : A) → t ≡ Ok a → P (Ok a)
  tried_changed a e = subst (λ (x : Result A Unread). Tried x P nothing) e tried

  pub tried_refused : (r : Refusal) → t ≡ Err (Refused r) → P (Err r)
  tried_refused r e = subst (λ (x : Result A Unread). Tried x P nothing) e tried

  pub tried_sets : t ≡ Err Sets → nothing
  tried_sets e = subst (λ (x : Result A Unread). Tried x P nothing) e tried
