-- The items of a text, and why a text or its items are refused.
use Rattle.std.specs.Prelude.{◌≡◌, ◌≢◌, ℕ, List, Option, Some, None, Err}
use Rattle.ofn_tree.specs.Items.{Item, IsTree}
use Rattle.ofn_tree.specs.Lexemes.{end_line}
use Rattle.ofn_tree.specs.Document.{DocumentTokens, reading}
use Rattle.ofn_tree.specs.Faults.{token_fault, bracket_fault}
use Rattle.ofn_tree.specs.declared.fault.TextFault.{TextFault}
use Rattle.ofn_expressions.specs.Counts.{Counts}
use Rattle.ofn_expressions.specs.Walk.{Test, walked}
use Rattle.ofn_expressions.specs.declared.refusal.Refusal.{Refusal}
use Rattle.ofn_expressions.specs.declared.refusal.Refusal.TheVariants.{Text, BadShape, UnknownPrefix, PrefixClash}
use Rattle.ofn_expressions.specs.declared.refusal.Refusal.TheVariants.{Outside, NotSimple, Limit, NoMemory}

-- the first fault of brackets, where the tokens of a document were found
abbrev pub tree_fault : ℕ → Option DocumentTokens → Option TextFault
tree_fault end None = None
tree_fault end (Some r) = bracket_fault end 0 r.tokens

-- the first fault, or else the other one
abbrev pub fault_or_else : Option TextFault → Option TextFault → Option TextFault
fault_or_else (Some fault) other = Some fault
fault_or_else None other = other

-- the first fault of a text: that of its tokens, else that of their brackets
abbrev pub text_fault : List ℕ → Option TextFault
text_fault text = fault_or_else (token_fault text) (tree_fault (end_line text) (reading text))

-- the items of a text without a fault, and the place after the last byte that was read
pub record HasItems (text : List ℕ) (items : List Item) (end : ℕ) : Type 0 where
  pub tokens : DocumentTokens
  pub cut : reading text ≡ Some tokens
  pub balanced : bracket_fault (end_line text) 0 tokens.tokens ≡ None
  pub tree : IsTree tokens.tokens items
  pub behind : tokens.place_behind ≡ end

-- a test of the text's items is the first that fails
pub record Fails (tests : List Item → List Test) (s : Counts) (text : List ℕ) (e : Refusal) : Type 0 where
  pub items : List Item
  pub end : ℕ
  pub made : HasItems text items end
  pub fails : walked s (tests items) ≡ Err e

-- why a text is refused: for its first fault, else for the first of its tests that fails
abbrev pub IsRefusedBy : (List Item → List Test) → Counts → List ℕ → Refusal → Type 0
IsRefusedBy tests s text (Text fault) = text_fault text ≡ Some fault
IsRefusedBy tests s text (BadShape line) = Fails tests s text (BadShape line)
IsRefusedBy tests s text (UnknownPrefix line) = Fails tests s text (UnknownPrefix line)
IsRefusedBy tests s text (PrefixClash line) = Fails tests s text (PrefixClash line)
IsRefusedBy tests s text (Outside line construct) = Fails tests s text (Outside line construct)
IsRefusedBy tests s text (NotSimple line) = Fails tests s text (NotSimple line)
IsRefusedBy tests s text (Limit w line) = Fails tests s text (Limit w line)
IsRefusedBy tests s text NoMemory = ⊥

-- why a text is refused, whatever is tested of its items, unless memory was refused
abbrev pub TextIsRefused : List ℕ → Refusal → Type 0
TextIsRefused text e = (tests : List Item → List Test) (s : Counts) → e ≢ NoMemory → IsRefusedBy tests s text e
