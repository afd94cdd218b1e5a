pub mod BoxValues
pub mod HandleSteps
