-- The refusal for a fault of a text.
use Rattle.ofn_tree.specs.declared.fault.TextFault.{TextFault}
use Rattle.ofn_tree.specs.declared.fault.TextFault.TheVariants as faults
use Rattle.ofn_expressions.specs.declared.refusal.Refusal.{Refusal}
use Rattle.ofn_expressions.specs.declared.refusal.Refusal.TheVariants.{Text, NoMemory}

-- the refusal by which a fault of a text is told
abbrev pub refusal_of : TextFault → Refusal
refusal_of faults.NoMemory = NoMemory
refusal_of (faults.BadUtf8 line) = Text (faults.BadUtf8 line)
refusal_of (faults.BadToken line) = Text (faults.BadToken line)
refusal_of (faults.Unbalanced line) = Text (faults.Unbalanced line)
refusal_of (faults.TooDeep line) = Text (faults.TooDeep line)
