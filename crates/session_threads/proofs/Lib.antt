pub mod MoveLaws
mod FaultLaws
mod KeptLaws
mod WhyLaws
mod IdLaws
pub mod RunLaws
mod RunReports
mod HalfLaws
mod FailureLaws
mod CountLaws
mod OpenedLaws
pub mod Sends
mod EndLaws
