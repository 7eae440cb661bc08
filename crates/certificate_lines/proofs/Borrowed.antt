-- Lists of borrowed lines and words.
use Rattle.std.proofs.Common.{◌≡◌, ℕ, List, map, drop, sym}
use Rattle.std.proofs.lemmas.List.{drop-map}
use denote.Ref.{Bor}

pub lines_drop : (n : ℕ) (ls : List (Bor (List ℕ))) → map (λ l. l.now) (drop n ls) ≡ drop n (map (λ l. l.now) ls)
lines_drop n ls = sym (drop-map (λ l. l.now) n ls)
