pub mod Off
pub mod Stayers
pub mod ReportLaws
