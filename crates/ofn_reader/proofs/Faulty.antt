-- A fault of a text is why it is refused.
use Rattle.std.proofs.Common.{◌≡◌, ◌≢◌, ℕ, List, Option, Some, refl, ap, sym, ◌∙◌, subst}
use Rattle.ofn_tree.specs.Lexemes.{end_line}
use Rattle.ofn_tree.specs.Items.{Item}
use Rattle.ofn_tree.specs.Document.{DocumentTokens, reading}
use Rattle.ofn_tree.specs.Faults.{TellsFault, token_fault, bracket_fault}
use Rattle.ofn_tree.specs.declared.fault.TextFault.{TextFault}
use Rattle.ofn_tree.specs.declared.fault.TextFault.TheVariants as faults
use Rattle.ofn_expressions.specs.Counts.{Counts}
use Rattle.ofn_expressions.specs.Walk.{Test}
use Rattle.ofn_expressions.specs.declared.refusal.Refusal.TheVariants.{NoMemory}
use Rattle.ofn_reader.specs.Refusals.{refusal_of}
use Rattle.ofn_reader.specs.Texts.{tree_fault, fault_or_else, text_fault, IsRefusedBy}
use Rattle.ofn_reader.proofs.Faultless.{no_token_fault}

fault_refuses : (tests : List Item → List Test) (s : Counts) (text : List ℕ) (fault : TextFault)
    → TellsFault (text_fault text) fault → refusal_of fault ≢ NoMemory → IsRefusedBy tests s text (refusal_of fault)
fault_refuses tests s text faults.NoMemory is known = absurd (known refl)
fault_refuses tests s text (faults.BadUtf8 line) is known = is
fault_refuses tests s text (faults.BadToken line) is known = is
fault_refuses tests s text (faults.Unbalanced line) is known = is
fault_refuses tests s text (faults.TooDeep line) is known = is

first_fault : (there other : Option TextFault) (fault : TextFault) → TellsFault there fault
    → TellsFault (fault_or_else there other) fault
first_fault there other faults.NoMemory is = tt
first_fault there other (faults.BadUtf8 line) is = ap (λ t. fault_or_else t other) is
first_fault there other (faults.BadToken line) is = ap (λ t. fault_or_else t other) is
first_fault there other (faults.Unbalanced line) is = ap (λ t. fault_or_else t other) is
first_fault there other (faults.TooDeep line) is = ap (λ t. fault_or_else t other) is

module _ (tests : List Item → List Test) (s : Counts) (text : List ℕ) (fault : TextFault) where
  pub token_fault_refuses : TellsFault (token_fault text) fault → refusal_of fault ≢ NoMemory
      → IsRefusedBy tests s text (refusal_of fault)
  token_fault_refuses is =
      fault_refuses tests s text fault
      (first_fault (token_fault text) (tree_fault (end_line text) (reading text)) fault is)

  pub tree_fault_refuses : (r : DocumentTokens) (end : ℕ) → reading text ≡ Some r → end ≡ end_line text
      → TellsFault (bracket_fault end 0 r.tokens) fault → refusal_of fault ≢ NoMemory
      → IsRefusedBy tests s text (refusal_of fault)
  tree_fault_refuses r end cut line is =
      let whole : text_fault text ≡ bracket_fault end 0 r.tokens =
      ap (λ (t : Option TextFault). fault_or_else t (tree_fault (end_line text) (reading text)))
      (no_token_fault text r cut)
      ∙ (λ i. tree_fault (sym line i) (cut i)) in
      fault_refuses tests s text fault (subst (λ t. TellsFault t fault) (sym whole) is)
