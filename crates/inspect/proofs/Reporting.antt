-- The parts of a report.
use Rattle.std.proofs.Common.{◌≡◌, ℕ, List, ◌∷◌, ◌++◌, Ok, codes, sym, refl, ap, ◌∙◌, arith}
use Rattle.policy.specs.declared.reader.Reader.{Reader}
use Rattle.policy.specs.Commands.{Context}
use Rattle.policy.specs.Policies as p
use Rattle.policy.specs.Reading.{Progress, Scan, Stop, stopped, ended, Reading, fault, well, unopened, scan_file, commands_of, file_of, read_as, reads}
use Rattle.policy.specs.View.{context, bytes, place, progress, ahead, Answers}
use Rattle.policy.proofs.Readers.{ahead_of_new}
use Rattle.inspect.specs.declared.formula.Policy.{Policy}
use Rattle.inspect.specs.Formulas.{policy_text}
use Rattle.inspect.specs.Lines.{after, lines_text}
use Rattle.inspect.specs.Reports.{pairs_line, Accounts, Reports}
use Rattle.inspect.specs.Trees.{declared, Builds}
use Rattle.inspect.proofs.Parts.{file_orderly}
use Rattle.inspect.proofs.Stacking.{all_declared}

-- ---- a new reader

module _ (r : Reader) (file : List ℕ) (k : progress r ≡ unopened) (b : bytes r ≡ file) (p : place r ≡ 5) where
  pub new_lines : lines_text (context r) (place r) (ahead r).commands ≡ lines_text unopened.context 5 (commands_of file)
  new_lines =
      ap (λ (s : Scan). lines_text (context r) (place r) s.commands) (ahead_of_new r file k b p) ∙ ap (λ (j : Progress). lines_text j.context (place r) (commands_of file)) k ∙
      ap (λ (n : ℕ). lines_text unopened.context n (commands_of file)) p

  pub new_known : after (context r) (ahead r).commands ≡ all_declared file
  new_known = ap (λ (s : Scan). after (context r) s.commands) (ahead_of_new r file k b p) ∙ ap (λ (j : Progress). after j.context (commands_of file)) k

-- ---- a file that reads well

pub well_declared : (file : List ℕ) (f : p.File) → reads file ≡ well f → declared f ≡ all_declared file
well_declared file f = by (scan_file file).stop refl
  where
    by : (s : Stop) → (scan_file file).stop ≡ s → read_as (commands_of file) s ≡ well f → declared f ≡ all_declared file
    by (stopped n q) g e = let z : ◌≡◌ {A = ℕ} 0 1 = cc in absurd (omega arith)
    by (ended k) g e = let same : file_of (commands_of file) k.context ≡ f = cc in ap declared (sym same) ∙ (file_orderly file).known k g

pub accounted : (file t : List ℕ) (n : ℕ) (tree : Policy) (x : Context) → x ≡ all_declared file → Builds (Ok tree) (reads file) →
    t ≡ lines_text unopened.context 5 (commands_of file) ++ (codes "formula: " ++ (policy_text x tree ++ (10 ∷ pairs_line n))) → Accounts t file n (reads file)
accounted file t n tree x e b h = by (reads file) refl b
  where
    by : (r : Reading) → reads file ≡ r → Builds (Ok tree) r → Accounts t file n r
    by (fault m q) g c = tt
    by (well f) g c = λ (m : n ≡ f.pairs). record {
      tree = tree;
      means = c;
      text =
          h ∙ ap (λ (y : Context). lines_text unopened.context 5 (commands_of file) ++ (codes "formula: " ++ (policy_text y tree ++ (10 ∷ pairs_line n)))) (e ∙ sym (well_declared file f g)) ∙
          ap (λ (i : ℕ). lines_text unopened.context 5 (commands_of file) ++ (codes "formula: " ++ (policy_text (declared f) tree ++ (10 ∷ pairs_line i)))) m;
    }

pub reported : (file t : List ℕ) (n : ℕ) (r : Reading) → Answers (Ok n) r → Accounts t file n r → Reports t file r
reported file t n (fault m q) a h = absurd a
reported file t n (well f) a h = h a
