-- What is ahead of a reader.
use Rattle.std.proofs.Common.{◌≡◌, ℕ, suc, ◌<◌, ◌≤◌, Bool, true, false, cond, List, [], ◌∷◌, length, Ok, Err, sym, refl, ap, ◌∙◌, subst}
use Rattle.std.proofs.lemmas.Bool.{cond-true, cond-false}
use Rattle.policy.specs.declared.command.Command.{Command}
use Rattle.policy.specs.declared.fault.ReadFault.{ReadFault}
use Rattle.policy.specs.declared.reader.Reader.{Reader}
use Rattle.policy.specs.Commands.{is_end}
use Rattle.policy.specs.Reading.{Stop, stopped, ended, before, scan, scan_file, unopened, reads, read_as}
use Rattle.policy.specs.Refusals as refusals
use Rattle.policy.specs.View.{command, progress, bytes, place, told, next_step, ahead, Answers}
use Rattle.policy.proofs.Scans.{step_takes, moves_on, ahead_refused, ahead_taken, ahead_first}

pub ahead_of_new : (r : Reader) (file : List ℕ) → progress r ≡ unopened → bytes r ≡ file → place r ≡ 5 → ahead r ≡ scan_file file
unfolding scan_file
ahead_of_new r file k b p =
    ap (λ f. scan (suc (length f)) (progress r) f (place r)) b ∙ ap (λ x. scan (suc (length file)) x file (place r)) k ∙ ap (λ n. scan (suc (length file)) unopened file n) p

module _ (r s : Reader) where
  pub ahead_of_refused : (f : ReadFault) → told (Err f) s ≡ next_step r → ahead r ≡ record { commands = []; stop = stopped (refusals.number f) (refusals.place f) }
  ahead_of_refused f e = ahead_refused (progress r) (bytes r) (place r) _ _ e

  module _ (x : Command) (e : told (Ok x) s ≡ next_step r) where
    ahead_of_taken : bytes s ≡ bytes r → ahead r ≡ cond (is_end (command x)) (record { commands = command x ∷ []; stop = ended (progress s) }) (before (command x) (ahead s))
    ahead_of_taken b =
        ahead_taken (progress r) (bytes r) (place r) (command x) (progress s) (place s) e ∙
        ap (λ f. cond (is_end (command x)) (record { commands = command x ∷ []; stop = ended (progress s) }) (before (command x) (scan (suc (length f)) (progress s) f (place s)))) (sym b)

    -- the first command of those ahead
    pub first_ahead : bytes s ≡ bytes r → (ahead r).commands ≡ command x ∷ (ahead s).commands
    first_ahead b =
        ahead_first (progress r) (bytes r) (place r) (command x) (progress s) (place s) e ∙
        ap (λ f. command x ∷ (scan (suc (length f)) (progress s) f (place s)).commands) (sym b)

    -- the first command of those to come: after the end there are none
    pub first_to_come : bytes s ≡ bytes r → (ahead r).commands ≡ command x ∷ cond (is_end (command x)) [] (ahead s).commands
    first_to_come b = ap (λ a. a.commands) (ahead_of_taken b) ∙ by (is_end (command x))
      where
        by : (t : Bool) → (cond t (record { commands = command x ∷ []; stop = ended (progress s) }) (before (command x) (ahead s))).commands ≡ command x ∷ cond t [] (ahead s).commands
        by true = refl
        by false = refl

    pub stop_last : bytes s ≡ bytes r → is_end (command x) ≡ true → (ahead r).stop ≡ ended (progress s)
    stop_last b t = ap (λ a. a.stop) (ahead_of_taken b ∙ cond-true _ _ _ t)

    pub stop_later : bytes s ≡ bytes r → is_end (command x) ≡ false → (ahead r).stop ≡ (ahead s).stop
    stop_later b t = ap (λ a. a.stop) (ahead_of_taken b ∙ cond-false _ _ _ t)

    pub place_moves : place r < place s
    place_moves = moves_on (progress r) (bytes r) (place r) (command x) (progress s) (place s) e

    pub place_within : place s ≤ length (bytes s)
    place_within = s.within (step_takes (progress r) (bytes r) (place r) (command x) (progress s) (place s) e).later

-- ---- the answer of a check

pub answers_fault : (file : List ℕ) (f : ReadFault) → (scan_file file).stop ≡ stopped (refusals.number f) (refusals.place f) → Answers (Err f) (reads file)
answers_fault file f e = subst (λ (x : Stop). Answers (Err f) (read_as (scan_file file).commands x)) (sym e) (refl, refl)

pub answers_pairs : (file : List ℕ) (r : Reader) (n : ℕ) → (scan_file file).stop ≡ ended (progress r) → n ≡ r.pairs → Answers (Ok n) (reads file)
answers_pairs file r n e p = subst (λ (x : Stop). Answers (Ok n) (read_as (scan_file file).commands x)) (sym e) p
