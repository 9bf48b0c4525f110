-- One piece of text after another.
use Rattle.std.proofs.Common.{◌≡◌, ℕ, List, [], ◌++◌, Ok, Err, Result, sym, ap, ◌∙◌, append_assoc, append-nil}
use Rattle.inspect.specs.declared.text.Text.{Text}
use Rattle.inspect.specs.Written.{written, Added, Adds}

-- nothing was added
pub nothing : (s : Text) → Added s s []
nothing s = record { is = sym (append-nil (written s)) }

-- a was added, and then b
pub then : {s t u : Text} {a b : List ℕ} → Added s t a → Added t u b → Added s u (a ++ b)
then {s} {t} {u} {a} {b} e f = record { is = f.is ∙ ap (λ l. l ++ b) e.is ∙ append_assoc (written s) a b }

-- the same piece by another name
pub named : {s t : Text} {a b : List ℕ} → a ≡ b → Added s t a → Added s t b
named {s} {t} {a} {b} e f = record { is = f.is ∙ ap (λ l. written s ++ l) e }

-- all of a text that was empty
pub whole : {s t : Text} {a : List ℕ} → written s ≡ [] → Added s t a → written t ≡ a
whole {s} {t} {a} e f = f.is ∙ ap (λ l. l ++ a) e

-- a was added, and then b unless memory failed
pub then_adds : {E : Type 0} {s t : Text} {a : List ℕ} (r : Result (Unit {0}) E) (u : Text) (b : List ℕ) → Added s t a → Adds r t u b → Adds r s u (a ++ b)
then_adds (Ok v) u b e f = then e f
then_adds (Err x) u b e f = tt
