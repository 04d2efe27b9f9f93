-- How the logic stores what contracts see of `Offers`.
use Rattle.std.specs.Prelude.{ℕ, List, refl}
use Rattle.std.specs.Coded.{Coded, code_by, coded×, coded_ℕ, coded_list}
use Rattle.cb_offers.specs.contracts.offers.Side as side
use Rattle.cb_offers.specs.declared.offers.Side.{Side}
use Rattle.cb_offers.specs.Tables.{OffersView}

abbrev pub offers_code : Coded OffersView
offers_code =
    code_by (ℕ × List (List Side)) (coded× coded_ℕ (coded_list (coded_list side.the_row.coded))) (λ v. (v.channels, v.rows)) (λ p. record { channels = p.0; rows = p.1 }) (λ _. refl)
