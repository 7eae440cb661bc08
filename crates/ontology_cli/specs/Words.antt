-- The words of the command line among the program's arguments.
use Rattle.std.specs.Prelude.{◌≡◌, ◌≢◌, List, [], drop, Option, Result, Ok, Err, String}
use Rattle.std.specs.Iterator.{Drains}
use Rattle.std.specs.IoError.{error_kind}
use Rattle.std.specs.declared.io.Error.{Error}
use Rattle.std.specs.declared.io.ErrorKind.TheVariants.{OutOfMemory}

-- these are all that an iterator with these steps goes on to give, but for the first
abbrev pub IsRestAfterFirst : {S A : Type 0} → (S → Option A → S → Type 0) → S → List A → Type 0
IsRestAfterFirst {A = A} steps from_here rest = (all : List A) × Drains steps from_here all × (rest ≡ drop 1 all)

-- all arguments, each whole, but for the first, which is the program's name; none where some argument is no text
abbrev pub AreWordsOf : {S A : Type 0} → (S → Option A → S → Type 0) → Result S Error → List A → Type 0
AreWordsOf steps (Ok args) words = IsRestAfterFirst steps args words
AreWordsOf steps (Err e) words = (words ≡ []) × (error_kind e ≢ OutOfMemory)
