mod Names
mod NodeRows
pub mod Records
mod At
mod EndsRise
mod Named
mod NodePlain
mod Opened
mod CountedParts
mod RegPlain
mod RowsAfter
mod Whole
