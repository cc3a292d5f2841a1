mod Calls
mod Determined
mod Leaving
mod ScriptAnswers
