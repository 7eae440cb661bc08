-- The faults of a text and of its brackets.
use Rattle.std.specs.Prelude.{◌≡◌, ℕ, ◌+◌, ◌-◌, List, [], ◌∷◌, nat_eq, nat_lt, Option, Some, None, Result, Ok, Err}
use Rattle.std.specs.Prelude.{if◌then◌else◌}
use Rattle.std.specs.Result.{result_err}
use Rattle.ofn_tree.specs.declared.fault.TextFault.{TextFault}
use Rattle.ofn_tree.specs.declared.fault.TextFault.TheVariants.{BadUtf8, BadToken, Unbalanced, TooDeep, NoMemory}
use Rattle.ofn_tree.specs.Token.{PlainToken, is_open, is_close}
use Rattle.ofn_tree.specs.Document.{document}

-- an answer tells the fault that there is, or that memory was refused
abbrev pub TellsFault : Option TextFault → TextFault → Type 0
TellsFault there NoMemory = Unit {0}
TellsFault there (BadUtf8 line) = there ≡ Some (BadUtf8 line)
TellsFault there (BadToken line) = there ≡ Some (BadToken line)
TellsFault there (Unbalanced line) = there ≡ Some (Unbalanced line)
TellsFault there (TooDeep line) = there ≡ Some (TooDeep line)

-- the first fault of a text's tokens, which there is where a text has no reading
abbrev pub token_fault : List ℕ → Option TextFault
token_fault text = result_err (document text)

-- how many brackets are open after a token, where d are open before it, or the fault of the token
abbrev pub depth_behind : ℕ → PlainToken → Result ℕ TextFault
depth_behind d t =
    if is_open t.kind then (if nat_lt d 64 then Ok (d + 1) else Err (TooDeep t.line))
    else if is_close t.kind then (if nat_eq d 0 then Err (Unbalanced t.line) else Ok (d - 1))
    else Ok d

-- a fault, or the first one after so many open brackets
abbrev pub fault_or : Result ℕ TextFault → (ℕ → Option TextFault) → Option TextFault
fault_or (Err fault) rest = Some fault
fault_or (Ok d) rest = rest d

-- the first fault of tokens before which d brackets are open, where the text ends on a line
abbrev pub bracket_fault : ℕ → ℕ → List PlainToken → Option TextFault
bracket_fault end d [] = if nat_eq d 0 then None else Some (Unbalanced end)
bracket_fault end d (t ∷ ts) = fault_or (depth_behind d t) (λ e. bracket_fault end e ts)
