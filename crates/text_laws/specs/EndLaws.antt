-- Where documents end.
use Rattle.std.specs.Prelude.{ℕ, ◌≤◌, List, ◌++◌, length, take}
use Rattle.shq_terms.specs.Listed.{Listed}
use Rattle.ofn_reader.specs.DocumentContext.{DocumentContext}
use Rattle.ofn_reader.specs.Documents.{IsDocument}

-- the end of a document is a place of its text
abbrev pub DocumentsEndInTheirText : Type 0
DocumentsEndInTheirText = (text : List ℕ) (o : Listed) (kept : DocumentContext) (end : ℕ) → IsDocument text o kept end
    → end ≤ length text

-- the text up to there, with any other text behind it, is the same document, which ends at the same place
abbrev pub TextsBehindDocumentsAreNotRead : Type 0
TextsBehindDocumentsAreNotRead =
    (text : List ℕ) (o : Listed) (kept : DocumentContext) (end : ℕ) → IsDocument text o kept end → (more : List ℕ)
    → IsDocument (take end text ++ more) o kept end
