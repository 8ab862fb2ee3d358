pub mod ProgramRuns
