pub mod PlainCalls
pub mod FirstMkdirs
pub mod StandsBelow
pub mod Claims
pub mod EndsWell
pub mod PlainRows
