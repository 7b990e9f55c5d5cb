mod Alike
mod CaughtLines
mod CompiledFrames
mod FirstLiar
mod FlownFault
mod FrameLines
mod HeadlineLines
mod Held
mod OtherLines
mod Places
mod RoundFlights
mod SameTexts
mod SheetConfigs
mod SheetForm
mod SheetPlaces
mod SheetVersions
mod Tells
mod TwoCatchers
mod TwoCatchersFit
pub mod Heard
pub mod Polls
