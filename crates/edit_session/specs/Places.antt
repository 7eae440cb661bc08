-- Where the tests of a log stand that may answer a query again.
use Rattle.std.specs.Prelude.{◌≡◌, ◌⊎◌, ℕ, ◌<◌, ◌≤◌, List, [], length, slice_get, slice_index_or, Option, Some, None}
use Rattle.std.specs.Prelude.{Contains}
use Rattle.lane_sieve.specs.Sets.{NumberSet, IsPart}
use Rattle.axiom_sets.specs.Sets.{Limited}
use Rattle.shq_terms.specs.declared.axioms.Query.{Query}
use Rattle.shq_oracle.specs.Entry.{Entry}
use Rattle.shq_oracle.specs.Entry.TheVariants.{Test, Node}
use Rattle.shq_oracle.specs.TestEnd.{TestEnd}
use Rattle.shq_oracle.specs.TestEnd.TheVariants.{Yes, No, Spent}
use Rattle.shq_oracle.specs.Entries.{EndAnswers, AnswersQuery}
use Rattle.edit_session.specs.Noted.{Noted}
use Rattle.edit_session.specs.Prints.{query_print}
use Rattle.edit_session.specs.declared.noted_places.NotedPlaces.{NotedPlaces}

-- what is filed under a print
abbrev pub places_at : List (List ℕ) → ℕ → List ℕ
places_at places print = slice_index_or places print []

-- The end of a test answers no query any more: an axiom of its yes is live no more, as it will never be again; or it
-- decided nothing.
abbrev pub IsOver : NumberSet → TestEnd → Type 0
IsOver live (Yes u) = ¬ IsPart u.members live
IsOver live No = ⊥
IsOver live (Spent t) = Unit {0}

-- each test among the first entries of the log is filed under the print of its query, or answers no more
abbrev pub AreFiled : List (List ℕ) → NumberSet → ℕ → List Entry → Type 0
AreFiled places live seen log = (place : ℕ) (s : Limited) (q : Query) (steps : ℕ) (e : TestEnd)
    → place < seen → slice_get log place ≡ Some (Test s q steps e)
    → Contains (places_at places (query_print q)) place ⊎ IsOver live e

-- what is filed stays filed, whatever is live
abbrev pub StaysFiled : NotedPlaces → NotedPlaces → List Entry → Type 0
StaysFiled old new log = (live : NumberSet) → AreFiled old.places.items live old.seen log
    → AreFiled new.places.items live new.seen log

-- the entry is filed by a place, if it is a test
abbrev pub IsFiledAt : List (List ℕ) → Entry → ℕ → Type 0
IsFiledAt places (Test s q steps e) place = Contains (places_at places (query_print q)) place
IsFiledAt places (Node s) place = Unit {0}

-- the same is filed under each print
abbrev pub SamePlaces : List (List ℕ) → List (List ℕ) → Type 0
SamePlaces old new = (print : ℕ) → places_at new print ≡ places_at old print

-- nothing was taken out
abbrev pub KeepsPlaces : List (List ℕ) → List (List ℕ) → Type 0
KeepsPlaces old new = (print place : ℕ) → Contains (places_at old print) place → Contains (places_at new print) place

-- the entry is a yes to the query
abbrev pub IsYesEnd : TestEnd → Type 0
IsYesEnd (Yes u) = Unit {0}
IsYesEnd No = ⊥
IsYesEnd (Spent t) = ⊥

-- the entry is a test of this query that ended with yes
abbrev pub IsYesTo : Entry → Query → Type 0
IsYesTo (Test s p steps e) q = (p ≡ q) × IsYesEnd e
IsYesTo (Node s) q = ⊥

-- at a place stands such an entry
abbrev pub IsYesAt : List Entry → ℕ → Query → Type 0
IsYesAt log place q = (entry : Entry) × (slice_get log place ≡ Some entry) × IsYesTo entry q

-- of these places no others were taken out than those where a yes to the query stands
abbrev pub KeepsOthers : List Entry → Query → List ℕ → List ℕ → Type 0
KeepsOthers log q old new = (place : ℕ) → Contains old place → Contains new place ⊎ IsYesAt log place q

-- of all prints, the places of entries that are no test of this query are kept
abbrev pub KeepsAllOthers : List Entry → Query → List (List ℕ) → List (List ℕ) → Type 0
KeepsAllOthers log q old new = (print : ℕ) → KeepsOthers log q (places_at old print) (places_at new print)

-- ---- looking for an answer

-- at a place stands an entry that answers the query for a set
abbrev pub AnswersAt : List Entry → Limited → Query → ℕ → Type 0
AnswersAt log s q place = (e : Entry) × (slice_get log place ≡ Some e) × AnswersQuery e s q

-- how an entry ended, where it answers
abbrev pub IsAnswerOf : Entry → Limited → Query → Option TestEnd → Type 0
IsAnswerOf entry s q (Some e) = (t : Limited) × (steps : ℕ) × (entry ≡ Test t q steps e) × EndAnswers t e s
IsAnswerOf entry s q None = ¬ AnswersQuery entry s q

-- how the test ended that was found to answer
abbrev pub IsFoundAmong : List Entry → Limited → Query → TestEnd → Type 0
IsFoundAmong log s q e = (t : Limited) × (steps : ℕ) × Contains log (Test t q steps e) × EndAnswers t e s

-- the end of a test that was found at a place answers the query, or none there does
abbrev pub IsFoundAt : List Entry → Limited → Query → ℕ → Option TestEnd → Type 0
IsFoundAt log s q place (Some e) = IsFoundAmong log s q e
IsFoundAt log s q place None = ¬ AnswersAt log s q place

-- the same of all of these places
abbrev pub IsFoundIn : List Entry → Limited → Query → List ℕ → Option TestEnd → Type 0
IsFoundIn log s q places (Some e) = IsFoundAmong log s q e
IsFoundIn log s q places None = (place : ℕ) → Contains places place → ¬ AnswersAt log s q place

-- ---- what was noted

-- what was noted is so of the first entries of the log, where these numbers are live
pub record IsNotedOf (noted : Noted) (live : NumberSet) (log : List Entry) : Type 0 where
  pub within : noted.seen ≤ length log
  pub filed : AreFiled noted.places live noted.seen log

-- The same of a log that may be another one than was noted: of one with fewer entries nothing is said.
pub record MayBeNotedOf (noted : Noted) (live : NumberSet) (log : List Entry) : Type 0 where
  pub filed : noted.seen ≤ length log → AreFiled noted.places live noted.seen log

-- what is noted of a log, as the definitions see it
abbrev pub plain_noted : NotedPlaces → Noted
plain_noted n = record { seen = n.seen; places = n.places.items }
