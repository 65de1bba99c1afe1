mod Common
pub mod Cutting
pub mod Fronts
pub mod Procedures
mod LineEnds
pub mod TextLines
mod LinePlaces
pub mod OneReading
mod CommandForms
mod RawForms
mod RawTroubles
mod NearTroubles
mod AgreeTroubles
mod DescribingTroubles
mod WishForms
mod WordForms
mod CodeForms
mod AgreeForms
mod RequestForms
mod Numerals
mod Items
mod DescribedForms
mod ExpectForms
mod EveryForms
mod TaskForms
mod TaskReading
mod TaskLaws
pub mod TaskMoments
pub mod SettlementLines
mod WritingSettlements
pub mod ZeroReplies
mod ParameterTroubles
pub mod Dates
pub mod Logs
pub mod LogStamps
mod Moments
mod FaultLines
mod FirstAttempts
mod Chained
pub mod Placing
mod Directed
mod Doubles
mod ClockForms
pub mod Judgements
mod ReasonForms
mod SentAs
mod SameRules
mod Laying
mod Repeating
mod FirstSendings
mod WordLists
mod ValueForms
mod FieldForms
mod KindSteps
mod KindReadings
mod KindPlaces
mod FormReadings
mod Fitting
mod FilesOf
mod ColumnSteps
mod DescriptionForms
mod DescribedLaws
pub mod DescribedTexts
mod MeasuredSteps
mod DatedPaths
