mod Drawing
mod Placing
mod Listing
mod Shallow
mod Trees
mod OneText
mod Floatless
