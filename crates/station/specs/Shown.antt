-- The last lines of a report.
use Rattle.std.specs.Prelude.{ℕ, List, [], ◌++◌, Some, None, Option, codes, decimal}
use Rattle.resp.specs.declared.fault.WireFault.{WireFault}
use Rattle.resp.specs.Answer.{number, words}
use Rattle.station.specs.declared.listing.Stop.{Stop}
use Rattle.station.specs.declared.listing.Stop.TheVariants.{Wire, Memory, Deep}
use Rattle.station.specs.declared.survey.Survey.{Survey}

-- a fault has a line of its own
abbrev pub shown_fault : Option WireFault → List ℕ
shown_fault None = []
shown_fault (Some f) = codes "\nstopped: fault " ++ decimal (number f.reason) ++ codes ", " ++ words f.reason ++ codes ", at " ++ decimal f.place

abbrev pub shown_survey : Survey → List ℕ
shown_survey s = codes "replies: " ++ decimal s.replies ++ codes ", bytes: " ++ decimal s.bytes ++ shown_fault s.fault

-- why a listing stops
abbrev pub shown_stop : Stop → List ℕ
shown_stop (Wire f) = codes "no whole reply to list"
shown_stop Memory = codes "no memory to list the items of this reply"
shown_stop Deep = codes "too many levels to list"
