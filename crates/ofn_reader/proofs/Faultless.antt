-- A text that is read has no fault of its tokens.
use Rattle.std.proofs.Common.{◌≡◌, ℕ, List, Some, None, Result, Ok, Err, refl}
use Rattle.std.specs.Result.{result_ok, result_err}
use Rattle.ofn_tree.specs.Document.{DocumentTokens, reading, document}
use Rattle.ofn_tree.specs.Faults.{token_fault}
use Rattle.ofn_tree.specs.declared.fault.TextFault.{TextFault}

no_error : (r : Result DocumentTokens TextFault) (x : DocumentTokens) → result_ok r ≡ Some x → result_err r ≡ None
no_error (Ok y) x is = refl
no_error (Err e) x is = let clash : None ≡ Some x = is in absurd (cc clash)

pub no_token_fault : (text : List ℕ) (r : DocumentTokens) → reading text ≡ Some r → token_fault text ≡ None
no_token_fault text r is = no_error (document text) r is
