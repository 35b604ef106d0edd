pub mod IdListReadBack
pub mod ReadBack
pub mod ListsReadBack
pub mod AnswersWritable
pub mod LongestAnswer
pub mod WrittenTable
pub mod ListsJudgedAlike
pub mod Statuses
