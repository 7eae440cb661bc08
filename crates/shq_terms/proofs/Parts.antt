-- Lists with the same parts are the same.
use Rattle.std.proofs.Common.{◌≡◌, List, [], ◌∷◌, refl}
use Rattle.shq_base.specs.Concept.{Concept, intersection, union, parts_of}

same_lists : (cs ds : List Concept) → parts_of cs ≡ parts_of ds → cs ≡ ds
same_lists [] [] e = refl
same_lists [] (d ∷ ds) e = absurd (cc e)
same_lists (c ∷ cs) [] e = absurd (cc e)
same_lists (c ∷ cs) (d ∷ ds) e =
    let first : c ≡ d = cc in
    let rest : parts_of cs ≡ parts_of ds = cc in let tail : cs ≡ ds = same_lists cs ds rest in cc

pub same_in_intersection : (cs ds : List Concept) → intersection (parts_of cs) ≡ intersection (parts_of ds) → cs ≡ ds
same_in_intersection cs ds e = let same : parts_of cs ≡ parts_of ds = cc in same_lists cs ds same

pub same_in_union : (cs ds : List Concept) → union (parts_of cs) ≡ union (parts_of ds) → cs ≡ ds
same_in_union cs ds e = let same : parts_of cs ≡ parts_of ds = cc in same_lists cs ds same
