-- How many words a job with one text and a budget has.
use Rattle.std.proofs.Common.{◌≡◌, ◌<◌, List, [], ◌∷◌, length, None, refl, arith}
use Rattle.std.specs.Prelude.{String}
use Rattle.std.specs.declared.alloc.Global.{Global}
use Rattle.ontology_jobs.specs.Words.{longest_request, texts_of}

-- fewer than four ask for none
pub few : (words : List (String Global)) → length words < 4 → None ≡ longest_request (texts_of words)
few [] less = refl
few (w ∷ []) less = refl
few (w ∷ a ∷ []) less = refl
few (w ∷ a ∷ b ∷ []) less = refl
few (w ∷ a ∷ b ∷ n ∷ rest) less = absurd (omega (arith, less))

-- and so do more than four
pub many : (words : List (String Global)) → 4 < length words → None ≡ longest_request (texts_of words)
many [] more = refl
many (w ∷ []) more = refl
many (w ∷ a ∷ []) more = refl
many (w ∷ a ∷ b ∷ []) more = refl
many (w ∷ a ∷ b ∷ n ∷ []) more = absurd (omega (arith, more))
many (w ∷ a ∷ b ∷ n ∷ m ∷ rest) more = refl
