-- What the goals of many functions cite together.
use Rattle.ofn_expressions.proofs.Growing.{grows_name, grows_same, grows_grows}
use Rattle.ofn_expressions.proofs.Kept.{place_listed, place_within}
use Rattle.ofn_expressions.proofs.Walks.{walked_append}

-- where one call follows another, nothing is lost
pub ruleset growing = (grows_grows, grows_same)

-- and what the two walk is what one walks behind the other
pub ruleset walking = (walked_append, grows_grows, grows_same)

-- where a name is looked up
pub ruleset placing = (place_within, grows_grows, grows_same)

-- where a name is put in
pub ruleset naming = (place_listed, grows_name, grows_same)
