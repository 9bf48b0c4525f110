-- From line to line.
use Rattle.std.proofs.Common.{◌≡◌, ℕ, ◌+◌, List, [], ◌∷◌, ◌++◌, Ok, Err, sym, refl, ap, ◌∙◌, append_assoc, append-nil}
use Rattle.policy.specs.declared.command.Command.{Command}
use Rattle.policy.specs.declared.fault.ReadFault.{ReadFault}
use Rattle.policy.specs.declared.reader.Reader.{Reader}
use Rattle.policy.specs.Commands as c
use Rattle.policy.specs.View.{command, context, bytes, place, progress, told, next_step, ahead}
use Rattle.policy.proofs.Readers.{ahead_of_refused, first_ahead}
use Rattle.inspect.specs.declared.text.Text.{Text}
use Rattle.inspect.specs.Lines.{after, size_of, line_text, lines_text, Listed}
use Rattle.inspect.specs.Written.{Added}
use Rattle.inspect.proofs.Joins.{then, named}
use Rattle.inspect.proofs.Parts.{Follows, step_follows}

-- ---- commands

-- the lines of the commands before those ahead of a reader
pub record Sofar (old new : Text) (first last : Reader) : Type 0 where
  pub seen : List ℕ
  pub text : Added old new seen
  pub rest : lines_text (context first) (place first) (ahead first).commands ≡ seen ++ lines_text (context last) (place last) (ahead last).commands
  pub known : after (context last) (ahead last).commands ≡ after (context first) (ahead first).commands

lines_none : (x : c.Context) (p : ℕ) → lines_text x p [] ≡ []
unfolding lines_text
lines_none x p = refl

lines_more : (x : c.Context) (p : ℕ) (k : c.Command) (ks : List c.Command) → lines_text x p (k ∷ ks) ≡ line_text (c.declares k x) p k ++ lines_text (c.declares k x) (p + 1 + size_of k) ks
unfolding lines_text
lines_more x p k ks = refl

-- there is no command ahead
module _ {old new : Text} {first last : Reader} (h : Sofar old new first last) where
  pub no_more : (f : ReadFault) (s : Reader) → told (Err f) s ≡ next_step last → s ≡ last → Listed old new first s
  no_more f s e same =
      let none : (ahead last).commands ≡ [] = ap (λ a. a.commands) (ahead_of_refused last s f e) in
      record {
        text = named (sym (h.rest ∙ ap (λ ks. h.seen ++ lines_text (context last) (place last) ks) none ∙ ap (λ l. h.seen ++ l) (lines_none (context last) (place last)) ∙ append-nil h.seen)) h.text;
        known = ap context same ∙ sym (ap (λ ks. after (context last) ks) none) ∙ h.known;
      }

  module _ (x : Command) (s : Reader) (t : Text) (e : told (Ok x) s ≡ next_step last) (same : bytes s ≡ bytes last) (line : Added new t (line_text (context s) (place last) (command x))) where
    follows : Follows (progress last) (place last) (command x) (progress s) (place s)
    follows = step_follows (progress last) (bytes last) (place last) (command x) (progress s) (place s) e

    first_is : (ahead last).commands ≡ command x ∷ (ahead s).commands
    first_is = first_ahead last s x e same

    -- the line of x, and then those of the commands ahead
    line_first : lines_text (context first) (place first) (ahead first).commands ≡ (h.seen ++ line_text (context s) (place last) (command x)) ++ lines_text (context s) (place s) (ahead s).commands
    line_first =
        let ks = (ahead s).commands in
        h.rest ∙ ap (λ l. h.seen ++ lines_text (context last) (place last) l) first_is ∙ ap (λ l. h.seen ++ l) (lines_more (context last) (place last) (command x) ks) ∙
        ap (λ y. h.seen ++ (line_text y (place last) (command x) ++ lines_text y (place last + 1 + size_of (command x)) ks)) (sym follows.context) ∙
        ap (λ p. h.seen ++ (line_text (context s) (place last) (command x) ++ lines_text (context s) p ks)) (sym follows.next) ∙
        sym (append_assoc h.seen (line_text (context s) (place last) (command x)) (lines_text (context s) (place s) ks))

    pub one_more : Sofar old t first s
    one_more =
        record {
          seen = h.seen ++ line_text (context s) (place last) (command x);
          text = then h.text line;
          rest = line_first;
          known = ap (λ y. after y (ahead s).commands) follows.context ∙ sym (ap (λ l. after (context last) l) first_is) ∙ h.known;
        }
