pub mod Program
pub mod ProgramLaws
pub mod SheetLaws
pub mod FewLaws
