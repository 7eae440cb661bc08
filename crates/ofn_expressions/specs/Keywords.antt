-- Which text is which keyword of a class expression.
use Rattle.std.specs.Prelude.{ℕ, List, codes, if◌then◌else◌, Option, Some, None}
use Rattle.std.specs.Str.{bytes_eq}
use Rattle.ofn_expressions.specs.Constructs.{excluded_class}
use Rattle.ofn_expressions.specs.declared.construct.Construct.{Construct}
use Rattle.ofn_expressions.specs.declared.keywords.ClassKeyword.TheVariants.{Intersection, Union, Complement}
use Rattle.ofn_expressions.specs.declared.keywords.ClassKeyword.TheVariants.{Restriction, Cardinality}
use Rattle.ofn_expressions.specs.declared.keywords.Quantifier.TheVariants as Q
use Rattle.ofn_expressions.specs.declared.keywords.Bound.TheVariants as B
use Rattle.ofn_expressions.specs.declared.keywords.Keyword.{Keyword}
use Rattle.ofn_expressions.specs.declared.keywords.Keyword.TheVariants.{Class, Excluded, Unknown}

-- the keyword of a text that is no class expression of the language: one that is left out, or an unknown one
abbrev pub keyword_else : Option Construct → Keyword
keyword_else (Some c) = Excluded c
keyword_else None = Unknown

-- the keyword of a class expression that a text is
unfoldable pub class_keyword : List ℕ → Keyword
class_keyword w =
    if bytes_eq w (codes "ObjectIntersectionOf") then Class Intersection
    else if bytes_eq w (codes "ObjectUnionOf") then Class Union
    else if bytes_eq w (codes "ObjectComplementOf") then Class Complement
    else if bytes_eq w (codes "ObjectSomeValuesFrom") then Class (Restriction Q.Some)
    else if bytes_eq w (codes "ObjectAllValuesFrom") then Class (Restriction Q.All)
    else if bytes_eq w (codes "ObjectMinCardinality") then Class (Cardinality B.AtLeast)
    else if bytes_eq w (codes "ObjectMaxCardinality") then Class (Cardinality B.AtMost)
    else if bytes_eq w (codes "ObjectExactCardinality") then Class (Cardinality B.Exactly)
    else keyword_else (excluded_class w)
