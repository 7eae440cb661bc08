-- Prefixes as the entries of a map.
use Rattle.std.proofs.Common.{◌≡◌, ℕ, Bool, true, false, cond, List, [], ◌∷◌, map, Option, Some, None, option_map, refl}
use Rattle.std.proofs.Common.{sym, ◌∙◌}
use Rattle.std.specs.Prelude.{String, string_bytes}
use Rattle.std.specs.Map.{lookup}
use Rattle.std.specs.Str.{bytes_eq}
use Rattle.ofn_expressions.specs.Names.{prefix_iri, entry}

pub iri_found : {Y Z : Type 0} (w : List ℕ) (es : List (String Y × String Z))
    → prefix_iri (map entry es) w ≡ option_map string_bytes (lookup (λ k. bytes_eq w (string_bytes k)) es)
iri_found w [] = refl
iri_found {Y} {Z} w (e ∷ es) = by (iri_found w es) (bytes_eq w (string_bytes e.0))
  where
    by : prefix_iri (map entry es) w ≡ option_map string_bytes (lookup (λ k. bytes_eq w (string_bytes k)) es)
        → (b : Bool)
        → cond b (Some (string_bytes e.1)) (prefix_iri (map entry es) w)
        ≡ option_map string_bytes (cond b (Some e.1) (lookup (λ k. bytes_eq w (string_bytes k)) es))
    by rest true = refl
    by rest false = rest

pub none_looked_up : {Y Z : Type 0} (w : List ℕ) (es : List (String Y × String Z)) → prefix_iri (map entry es) w ≡ None
    → lookup (λ k. bytes_eq w (string_bytes k)) es ≡ None
none_looked_up {Y} {Z} w es none = by (lookup (λ k. bytes_eq w (string_bytes k)) es) (sym (iri_found w es) ∙ none)
  where
    by : (r : Option (String Z)) → option_map string_bytes r ≡ None → r ≡ None
    by None is = refl
    by (Some x) is = let clash : Some (string_bytes x) ≡ None = is in absurd (cc clash)
