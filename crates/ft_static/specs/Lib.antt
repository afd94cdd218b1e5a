pub mod NodeParts
pub mod NodeRules
pub mod Expression
pub mod NodeTree
pub mod Form
pub mod NormalForm
pub mod Coefficient
pub mod Examples
