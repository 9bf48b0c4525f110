-- What is printed of a file.
use Rattle.std.specs.Prelude.{◌≡◌, ℕ, List, [], ◌∷◌, ◌++◌, Ok, codes, decimal}
use Rattle.policy.specs.Commands.{Context}
use Rattle.policy.specs.Policies as p
use Rattle.policy.specs.Reading.{Reading, fault, well, unopened, commands_of}
use Rattle.inspect.specs.declared.formula.Policy.{Policy}
use Rattle.inspect.specs.declared.text.Text.{Text}
use Rattle.inspect.specs.Formulas.{policy_text}
use Rattle.inspect.specs.Lines.{lines_text}
use Rattle.inspect.specs.Trees.{declared, policy, Builds}
use Rattle.inspect.specs.Written.{Added}

-- the line of a refusal: its layer, its number and its place; reading is layer 1
abbrev pub refusal_line : ℕ → ℕ → List ℕ
refusal_line n p = codes "refused 1 " ++ (decimal n ++ (codes " " ++ (decimal p ++ (10 ∷ []))))

-- the last line for a file that reads well
abbrev pub pairs_line : ℕ → List ℕ
pairs_line n = codes "pairs " ++ (decimal n ++ (10 ∷ []))

-- for a file that reads well: a line for each command, the formula of the file's policy, and the number of pairs
pub record Account (t file : List ℕ) (f : p.File) : Type 0 where
  pub tree : Policy
  pub means : policy (declared f) tree ≡ f.policy
  pub text : t ≡ lines_text unopened.context 5 (commands_of file) ++ (codes "formula: " ++ (policy_text (declared f) tree ++ (10 ∷ pairs_line f.pairs)))

-- the formula of the policy that a file reads to was added
pub record Formulated (old new : Text) (x : Context) (r : Reading) : Type 0 where
  pub tree : Policy
  pub builds : Builds (Ok tree) r
  pub text : Added old new (codes "formula: " ++ policy_text x tree)

-- the same as an account, where n is the number of pairs
abbrev pub Accounts : List ℕ → List ℕ → ℕ → Reading → Type 0
Accounts t file n (fault m place) = Unit {0}
Accounts t file n (well f) = n ≡ f.pairs → Account t file f

-- for a file that is refused just the line of the refusal
abbrev pub Reports : List ℕ → List ℕ → Reading → Type 0
Reports t file (fault n place) = t ≡ refusal_line n place
Reports t file (well f) = Account t file f
