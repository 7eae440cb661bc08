use Rattle.search_trace.proofs.Places.{closing_stripped, closing_whole, closing_turned}
use Rattle.search_trace.proofs.closing_laws.closing_goes_back.Goals as goal

pub returns : goal.returns
returns c = λ q table start lines p ps u h. record {
  stripped = closing_stripped q table start lines p ps u h;
  whole = closing_whole q table start lines p ps u h;
  turned = λ a rest new. closing_turned q table start lines p ps u a rest new h;
}
