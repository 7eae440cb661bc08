-- Which text is which keyword, where an axiom must stand and where an entity is declared.
use Rattle.std.specs.Prelude.{ℕ, List, codes, if◌then◌else◌, Option, Some, None}
use Rattle.std.specs.Str.{bytes_eq}
use Rattle.ofn_expressions.specs.Constructs.{excluded_axiom}
use Rattle.ofn_expressions.specs.declared.construct.Construct.{Construct}
use Rattle.ofn_reader.specs.declared.keywords.AxiomKind.TheVariants as K
use Rattle.ofn_reader.specs.declared.keywords.AxiomKeyword.{AxiomKeyword}
use Rattle.ofn_reader.specs.declared.keywords.AxiomKeyword.TheVariants.{Numbered, Declaration, Annotation, Excluded}
use Rattle.ofn_reader.specs.declared.keywords.AxiomKeyword.TheVariants.{Unknown}
use Rattle.ofn_reader.specs.declared.keywords.EntityKeyword.{EntityKeyword}
use Rattle.ofn_reader.specs.declared.keywords.EntityKeyword.TheVariants as E

-- the keyword of a text that is no axiom of the language: one that is left out, or an unknown one
abbrev pub axiom_else : Option Construct → AxiomKeyword
axiom_else (Some c) = Excluded c
axiom_else None = Unknown

-- The four axioms about annotations, and annotations of the ontology, are not looked at.
unfoldable pub axiom_keyword : List ℕ → AxiomKeyword
axiom_keyword w =
    if bytes_eq w (codes "SubClassOf") then Numbered K.SubClassOf
    else if bytes_eq w (codes "EquivalentClasses") then Numbered K.EquivalentClasses
    else if bytes_eq w (codes "DisjointClasses") then Numbered K.DisjointClasses
    else if bytes_eq w (codes "DisjointUnion") then Numbered K.DisjointUnion
    else if bytes_eq w (codes "SubObjectPropertyOf") then Numbered K.SubRole
    else if bytes_eq w (codes "EquivalentObjectProperties") then Numbered K.EquivalentRoles
    else if bytes_eq w (codes "ObjectPropertyDomain") then Numbered K.Domain
    else if bytes_eq w (codes "ObjectPropertyRange") then Numbered K.Range
    else if bytes_eq w (codes "FunctionalObjectProperty") then Numbered K.Functional
    else if bytes_eq w (codes "TransitiveObjectProperty") then Numbered K.Transitive
    else if bytes_eq w (codes "ClassAssertion") then Numbered K.Member
    else if bytes_eq w (codes "ObjectPropertyAssertion") then Numbered K.Pair
    else if bytes_eq w (codes "SameIndividual") then Numbered K.SameAll
    else if bytes_eq w (codes "DifferentIndividuals") then Numbered K.Different
    else if bytes_eq w (codes "Declaration") then Declaration
    else if bytes_eq w (codes "Annotation") then Annotation
    else if bytes_eq w (codes "AnnotationAssertion") then Annotation
    else if bytes_eq w (codes "SubAnnotationPropertyOf") then Annotation
    else if bytes_eq w (codes "AnnotationPropertyDomain") then Annotation
    else if bytes_eq w (codes "AnnotationPropertyRange") then Annotation
    else axiom_else (excluded_axiom w)

-- what kind of entity is declared; of these only classes, roles and individuals are listed
unfoldable pub entity_keyword : List ℕ → EntityKeyword
entity_keyword w =
    if bytes_eq w (codes "Class") then E.Class
    else if bytes_eq w (codes "ObjectProperty") then E.Role
    else if bytes_eq w (codes "NamedIndividual") then E.Individual
    else if bytes_eq w (codes "DataProperty") then E.Unlisted
    else if bytes_eq w (codes "AnnotationProperty") then E.Unlisted
    else if bytes_eq w (codes "Datatype") then E.Unlisted
    else E.Unknown
