mod Words
mod Limits
mod Pushes
mod Counting
mod Readers
mod Calls
mod Closing
mod Reading
mod Turning
mod Stepping
mod Opening
mod Edits
mod MadeLike
mod Forms
mod Due
pub mod StressSteps
pub mod StressEnds
pub mod StressClosing
pub mod StressOpening
pub mod StressForms
pub mod StressCommands
mod Does
pub mod PairKeeps
pub mod PairStages
pub mod PairReaders
pub mod PairAnswers
pub mod PairCarried
pub mod PairSteps
pub mod PairReads
pub mod PairOpening
pub mod PairGreets
pub mod PairForms
pub mod PairCalls
pub mod PairTakes
pub mod PairRoom
pub mod PairNext
pub mod PairLines
pub mod PairOutput
pub mod PairEnds
pub mod PairRuns
pub mod PairCourse
