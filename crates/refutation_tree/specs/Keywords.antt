-- Which word is which keyword of a concept line and of a rule line.
use Rattle.std.specs.Prelude.{ℕ, List, codes, if◌then◌else◌, Option, Some, None}
use Rattle.std.specs.Str.{bytes_eq}
use Rattle.refutation_tree.specs.declared.keywords.ShapeKind.{ShapeKind}
use Rattle.refutation_tree.specs.declared.keywords.ShapeKind.TheVariants as S
use Rattle.refutation_tree.specs.declared.keywords.LineKind.{LineKind}
use Rattle.refutation_tree.specs.declared.keywords.LineKind.TheVariants as L

-- the kind of a concept that a word names
unfoldable pub shape_kind : List ℕ → Option ShapeKind
shape_kind w =
    if bytes_eq w (codes "top") then Some S.Top
    else if bytes_eq w (codes "bottom") then Some S.Bottom
    else if bytes_eq w (codes "name") then Some S.Name
    else if bytes_eq w (codes "not") then Some S.NotName
    else if bytes_eq w (codes "and") then Some S.And
    else if bytes_eq w (codes "or") then Some S.Or
    else if bytes_eq w (codes "some") then Some S.SomeOf
    else if bytes_eq w (codes "all") then Some S.AllOf
    else if bytes_eq w (codes "least") then Some S.Least
    else if bytes_eq w (codes "most") then Some S.Most
    else None

-- the kind of a rule line that a word names
unfoldable pub line_kind : List ℕ → Option LineKind
line_kind w =
    if bytes_eq w (codes "start") then Some L.Start
    else if bytes_eq w (codes "and") then Some L.And
    else if bytes_eq w (codes "or") then Some L.Or
    else if bytes_eq w (codes "all") then Some L.All
    else if bytes_eq w (codes "carry") then Some L.Carry
    else if bytes_eq w (codes "row") then Some L.Row
    else if bytes_eq w (codes "range") then Some L.Range
    else if bytes_eq w (codes "some") then Some L.SomeOf
    else if bytes_eq w (codes "least") then Some L.Least
    else if bytes_eq w (codes "choose") then Some L.Choose
    else if bytes_eq w (codes "pair") then Some L.Pair
    else if bytes_eq w (codes "bottom") then Some L.Bottom
    else if bytes_eq w (codes "clash") then Some L.Clash
    else if bytes_eq w (codes "most") then Some L.Most
    else if bytes_eq w (codes "fact") then Some L.Fact
    else if bytes_eq w (codes "differ") then Some L.Differ
    else None
